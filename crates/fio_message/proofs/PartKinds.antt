-- The two kinds of parts: items and entries.
use Rattle.fio_message.proofs.Names.{◌≡◌, ℕ, ◌+◌, ◌*◌, ◌<◌, ◌≤◌, ◌%◌, Bool, true, false, leb, List, [], ◌∷◌, ◌++◌, length, take, drop, ap, ◌∙◌, refl, arith, inl, inr, nat_le, w16, to_be_bytes, from_be_bytes, le-leb, lt-leb, leb-true, leb-false, cases_Bool, from_be_bytes-to_be_bytes_2, Entry, IsOctet, IsOctets, item_octets, entry_octets, IsItem, IsEntry, bit_of, item_at, entry_at}
use Rattle.fio_message.specs.declared.fields.InputItem.{InputItem}
use Rattle.fio_message.proofs.Numbers.{octet_at, IsOctets-drop, IsOctets-be16, number_16, below_16}
use Rattle.fio_message.proofs.PartLists.{IsPart}

-- a flag in bit 7 and a number in the seven bits below it are read back
flag_again : (b : Bool) (n : ℕ) → n < 128
    → ((128 * bit_of b + n) % 128 ≡ n) × (nat_le 128 (128 * bit_of b + n) ≡ b)
flag_again true n lt = (omega arith, le-leb 128 (128 + n) (omega arith))
flag_again false n lt = (omega arith, lt-leb 128 (0 + n) (omega arith))

-- a flag and such a number together are an octet
flag_octet : (b : Bool) (n : ℕ) → n < 128 → IsOctet (128 * bit_of b + n)
flag_octet true n lt = omega arith
flag_octet false n lt = omega arith

-- an octet is its bit 7 and the seven bits below it
flag_split : (a : ℕ) → a < 256 → 128 * bit_of (nat_le 128 a) + a % 128 ≡ a
flag_split a lt =
    elim (cases_Bool (leb 128 a)) [
      | inl e ↦ let le : 128 ≤ a = leb-true 128 a e in rw e (omega arith)
      | inr e ↦ let below : a < 128 = leb-false 128 a e in rw e (omega arith)
    ]

-- the item that is read from three octets spells them
item-spelled : (o : List ℕ) → 3 ≤ length o → IsOctets o → item_octets (item_at o) ≡ take 3 o
item-spelled [] le h = absurd (omega arith)
item-spelled (a ∷ []) le h = absurd (omega arith)
item-spelled (a ∷ b ∷ []) le h = absurd (omega arith)
item-spelled (a ∷ b ∷ c ∷ rest) le h = ap (λ (x : ℕ). x ∷ b ∷ c ∷ []) (flag_split a h.0)

-- an item is read back from its octets
item-again : (x : InputItem) (rest : List ℕ) → IsItem x → item_at (item_octets x ++ rest) ≡ x
item-again x rest fits = let f = flag_again x.ignore x.input fits.0 in rw (f.0, f.1) refl

-- items are parts
pub item_is_part : IsPart IsItem item_octets item_at
item_is_part = record {
  len = λ x. refl;
  octets = λ x fits. (flag_octet x.ignore x.input fits.0, (fits.1, (fits.2, tt)));
  again = item-again;
  fits = λ o h. (omega arith, octet_at o 1 h, octet_at o 2 h);
  spelled = item-spelled;
}

-- the entry that is read from three octets spells them
entry-spelled : (o : List ℕ) → 3 ≤ length o → IsOctets o → entry_octets (entry_at o) ≡ take 3 o
entry-spelled [] le h = absurd (omega arith)
entry-spelled (a ∷ []) le h = absurd (omega arith)
entry-spelled (a ∷ b ∷ []) le h = absurd (omega arith)
entry-spelled (a ∷ b ∷ c ∷ rest) le h =
    let stamp : to_be_bytes w16 (from_be_bytes w16 (b ∷ c ∷ [])) ≡ b ∷ c ∷ [] =
    number_16 (b ∷ c ∷ []) refl (h.1.0, (h.1.1.0, tt)) in
    ap (λ (r : List ℕ). (128 * bit_of (nat_le 128 a) + a % 128) ∷ r) stamp
    ∙ ap (λ (x : ℕ). x ∷ b ∷ c ∷ []) (flag_split a h.0)

abbrev with_stamp : Entry → ℕ → Entry
with_stamp x n = record { input = x.input; level = x.level; stamp = n }

-- an entry is read back from its octets
entry-again : (x : Entry) (rest : List ℕ) → IsEntry x → entry_at (entry_octets x ++ rest) ≡ x
entry-again x rest fits =
    let f = flag_again x.level x.input fits.0 in
    let stamp = from_be_bytes-to_be_bytes_2 x.stamp fits.1 in
    rw (f.0, f.1) (ap (with_stamp x) stamp)

-- entries are parts
pub entry_is_part : IsPart IsEntry entry_octets entry_at
entry_is_part = record {
  len = λ x. refl;
  octets = λ x fits. (flag_octet x.level x.input fits.0, IsOctets-be16 x.stamp);
  again = entry-again;
  fits = λ o h. (omega arith, below_16 (drop 1 o) (IsOctets-drop 1 o h));
  spelled = entry-spelled;
}
