-- What is in a batch with one frame, place or verdict more.
use Rattle.std.proofs.Common.{◌≡◌, ℕ, ◌+◌, ◌<◌, ◌≤◌, List, [], ◌∷◌, ◌++◌, length, get_or, map, set, take, drop, refl, sym, subst, ap, ◌∙◌, append_assoc, append-nil, arith, take-append-drop}
use Rattle.std.proofs.Math.Seq.{take-append_seam}
use Rattle.std.proofs.lemmas.Grind.{flat_map-append}
use Rattle.std.proofs.lemmas.List.{length-append, length-take-le, map-append, take_more, take_more_set}
use Rattle.std.proofs.lemmas.List.Folds.{concat-append}
use Rattle.std.specs.List.{concat, flat_map}
use Rattle.fio_flat.specs.Written.{buffer_with}
use Rattle.fio_log.specs.declared.places.Place.{Place}
use Rattle.fio_c.specs.Logs.{AreNext, Content, Holds, content_of, flat_place, flat_told}
use Rattle.fio_c.specs.Told.{Told}
use Rattle.fio_c.specs.declared.log_batch.LogBatch.{LogBatch}
use Rattle.fio_c.specs.declared.log_batch.LogVerdict.{LogVerdict}

-- the front of a buffer, up to the end of what was written there
take-buffer_with : (place : ℕ) (octets before : List ℕ) → place ≤ length before
    → take (place + length octets) (buffer_with place octets before) ≡ take place before ++ octets
take-buffer_with place octets before within =
    let front = take place before in
    let rest = drop (place + length octets) before in
    let long : length (front ++ octets) ≡ place + length octets = length-append front octets ∙ ap (λ n. n + length octets) (length-take-le place before within) in
    ap (λ n. take n (front ++ (octets ++ rest))) (sym long) ∙ ap (take (length (front ++ octets))) (sym (append_assoc front octets rest)) ∙ take-append_seam (front ++ octets) rest

-- the lengths of frames, and the next one's
pub lengths_more : (counts : List ℕ) (n : ℕ) (frames : List (List ℕ)) (octets : List ℕ) → n < length counts
    → take n counts ≡ map length frames → take (n + 1) (set counts n (length octets)) ≡ map length (frames ++ octets ∷ [])
lengths_more counts n frames octets room here =
    take_more_set counts n (length octets) room ∙ ap (λ counted. counted ++ length octets ∷ []) here ∙ sym (map-append length frames (octets ∷ []))

-- the octets of frames, and the next one's
pub octets_more : (before : List ℕ) (place : ℕ) (frames : List (List ℕ)) (octets : List ℕ) → place ≤ length before
    → take place before ≡ concat frames → take (place + length octets) (buffer_with place octets before) ≡ concat (frames ++ octets ∷ [])
octets_more before place frames octets within here =
    take-buffer_with place octets before within ∙ ap (λ front. front ++ octets) here
    ∙ ap (λ last. concat frames ++ last) (sym (append-nil octets)) ∙ sym (concat-append frames (octets ∷ []))

-- the first items, and the next one, after others
pub one_more : {V : Type 0} (before items : List V) (index : ℕ) (none item : V) → index < length items → item ≡ get_or items index none
    → (before ++ take index items) ++ item ∷ [] ≡ before ++ take (index + 1) items
one_more before items index none item inside is =
    append_assoc before (take index items) (item ∷ [])
    ∙ ap (λ more. before ++ more) (ap (λ last. take index items ++ last ∷ []) is ∙ sym (take_more items index none inside))

-- no frame yet
pub no_frame : (content : Content) (batch : LogBatch) → Holds batch content → Holds batch (record content { frames = content.frames ++ [] })
no_frame content batch holds = subst (λ frames. Holds batch (record content { frames = frames })) (sym (append-nil content.frames)) holds

-- no place yet
pub no_place : (content : Content) (batch : LogBatch) → Holds batch content → Holds batch (record content { places = content.places ++ [] })
no_place content batch holds = subst (λ places. Holds batch (record content { places = places })) (sym (append-nil content.places)) holds

-- the octets of the first frames, and of the next one
pub octets_next : (frames : List (List ℕ)) (index : ℕ) (octets : List ℕ) → index < length frames → octets ≡ get_or frames index []
    → length (concat (take (index + 1) frames)) ≡ length (concat (take index frames)) + length octets
octets_next frames index octets inside is =
    ap (λ front. length (concat front)) (sym (one_more [] frames index [] octets inside is))
    ∙ ap length (concat-append (take index frames) (octets ∷ []) ∙ ap (λ last. concat (take index frames) ++ last) (append-nil octets))
    ∙ length-append (concat (take index frames)) octets

-- the first frames have no more octets than all
pub octets_within : (frames : List (List ℕ)) (index : ℕ) → length (concat (take index frames)) ≤ length (concat frames)
octets_within frames index =
    let all : concat (take index frames) ++ concat (drop index frames) ≡ concat frames =
    sym (concat-append (take index frames) (drop index frames)) ∙ ap concat (take-append-drop index frames) in
    omega (arith, ap length all, length-append (concat (take index frames)) (concat (drop index frames)))

-- the next frame
pub next_frame : (content : Content) (frames : List (List ℕ)) (index : ℕ) (octets : List ℕ) (before after : LogBatch) → index < length frames
    → octets ≡ get_or frames index []
    → ((all : Content) → Holds before all → Holds after (record all { frames = all.frames ++ octets ∷ [] }))
    → Holds before (record content { frames = content.frames ++ take index frames })
    → Holds after (record content { frames = content.frames ++ take (index + 1) frames })
next_frame content frames index octets before after inside is pushed holds =
    subst (λ all. Holds after (record content { frames = all })) (one_more content.frames frames index [] octets inside is) (pushed _ holds)

-- the next place
pub next_place : (content : Content) (places : List Place) (index : ℕ) (none place : Place) (before after : LogBatch) → index < length places
    → place ≡ get_or places index none
    → ((all : Content) → Holds before all → Holds after (record all { places = all.places ++ flat_place place ∷ [] }))
    → Holds before (record content { places = content.places ++ map flat_place (take index places) })
    → Holds after (record content { places = content.places ++ map flat_place (take (index + 1) places) })
next_place content places index none place before after inside is pushed holds =
    subst (λ all. Holds after (record content { places = all }))
    (append_assoc content.places (map flat_place (take index places)) (flat_place place ∷ [])
    ∙ ap (λ more. content.places ++ more) (sym (map-append flat_place (take index places) (place ∷ []))
    ∙ ap (map flat_place) (one_more [] places index none place inside is)))
    (pushed _ holds)

-- what a batch says of one verdict more
pub content_more : (told : List Told) (one : Told) (batch : LogBatch)
    → Holds batch (record {
      verdicts = (content_of told).verdicts ++ flat_told one ∷ [];
      frames = (content_of told).frames ++ one.frames;
      places = (content_of told).places ++ map flat_place one.places;
    })
    → Holds batch (content_of (told ++ one ∷ []))
content_more told one batch holds =
    let frames : flat_map (λ (o : Told). o.frames) (told ++ one ∷ []) ≡ flat_map (λ (o : Told). o.frames) told ++ one.frames =
    flat_map-append (λ (o : Told). o.frames) told (one ∷ []) ∙ ap (λ last. flat_map (λ (o : Told). o.frames) told ++ last) (append-nil one.frames) in
    let places : flat_map (λ (o : Told). o.places) (told ++ one ∷ []) ≡ flat_map (λ (o : Told). o.places) told ++ one.places =
    flat_map-append (λ (o : Told). o.places) told (one ∷ []) ∙ ap (λ last. flat_map (λ (o : Told). o.places) told ++ last) (append-nil one.places) in
    record {
      verdicts = holds.verdicts ∙ sym (map-append flat_told told (one ∷ []));
      lengths = holds.lengths ∙ ap (map length) (sym frames);
      octets = holds.octets ∙ ap concat (sym frames);
      places = holds.places ∙ sym (map-append flat_place (flat_map (λ (o : Told). o.places) told) one.places) ∙ ap (map flat_place) (sym places);
    }

-- the next line's verdict
pub next_more : (told : ℕ) (verdicts : List LogVerdict) (last : ℕ) (verdict : LogVerdict) → AreNext told verdicts last
    → verdict.line ≡ last + 1 → AreNext told (verdicts ++ verdict ∷ []) verdict.line
next_more told [] last verdict next here = (subst (λ n. verdict.line ≡ n + 1) next here, refl)
next_more told (first ∷ verdicts) last verdict next here = (next.0, next_more first.line verdicts last verdict next.1 here)
