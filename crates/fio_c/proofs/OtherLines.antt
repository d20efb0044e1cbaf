-- Lines of a batch, of which one more is told.
use Rattle.std.proofs.Common.{◌≡◌, ℕ, ◌+◌, ◌<◌, List, [], ◌∷◌, ◌++◌, length, get_or, set, take, drop, sym, ap, ◌∙◌, append_assoc, arith}
use Rattle.std.proofs.lemmas.List.{drop-set-lt, drop_more, take_more_set}
use Rattle.fio_log.specs.declared.others.Others.{Others}
use Rattle.fio_c.specs.LogOthers.{below_line, below_lines, passed_line, passed_lines}
use Rattle.fio_c.specs.declared.log_batch.LogVerdict.{LogVerdict}

-- those above the next line and those from it on, where that is told
pub lines_more : (others : Others) (lines : List LogVerdict) (index : ℕ) (none : LogVerdict) → index < length lines
    → take (index + 1) (set lines index (passed_line others (get_or lines index none)))
    ++ passed_lines (below_line others (get_or lines index none)) (drop (index + 1) (set lines index (passed_line others (get_or lines index none))))
    ≡ take index lines ++ passed_lines others (drop index lines)
lines_more others lines index none less =
    let line = get_or lines index none in
    let told = passed_line others line in
    let below = below_line others line in
    ap (λ above. above ++ passed_lines below (drop (index + 1) (set lines index told))) (take_more_set lines index told less)
    ∙ ap (λ rest. (take index lines ++ told ∷ []) ++ passed_lines below rest) (drop-set-lt (index + 1) lines index told (omega arith))
    ∙ append_assoc (take index lines) (told ∷ []) (passed_lines below (drop (index + 1) lines))
    ∙ ap (λ rest. take index lines ++ passed_lines others rest) (sym (drop_more lines index none less))

-- what is counted below the lines that are left
pub below_more : (others : Others) (lines : List LogVerdict) (index : ℕ) (none : LogVerdict) → index < length lines
    → below_lines (below_line others (get_or lines index none)) (drop (index + 1) (set lines index (passed_line others (get_or lines index none))))
    ≡ below_lines others (drop index lines)
below_more others lines index none less =
    let line = get_or lines index none in
    ap (λ rest. below_lines (below_line others line) rest) (drop-set-lt (index + 1) lines index (passed_line others line) (omega arith))
    ∙ ap (λ rest. below_lines others rest) (sym (drop_more lines index none less))
