use Rattle.std.proofs.Common.{◌∙◌, ap}
use Rattle.fio_c.specs.BatchItems.{line_count}
use Rattle.fio_c.proofs.LogParts.{count_lines}
use Rattle.fio_c.proofs.log_parts.fio2070_log_batch_part.Goals as goal

pub returns-clause-lines : goal.returns-clause-lines
returns-clause-lines c = λ content holds.
    c.add_items.ensures.lines ∙ ap line_count (c.items_of.ensures.items content holds) ∙ count_lines content.verdicts content.frames
