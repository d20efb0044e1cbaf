use Rattle.std.proofs.Common.{◌≡◌, ◌++◌, take, drop}
use Rattle.fio_c.specs.LogOthers.{below_lines, passed_lines}
use Rattle.fio_c.proofs.log_others.pass_lines.Given as goal

-- with the lines that are left, all are told
abbrev pub invariant-lines : goal.invariant-lines
invariant-lines l = record {
  lines : take l.verdict-index l.verdicts ++ passed_lines l.reader.others (drop l.verdict-index l.verdicts)
      ≡ passed_lines l.initial.reader.others l.initial.verdicts;
  below : below_lines l.reader.others (drop l.verdict-index l.verdicts) ≡ below_lines l.initial.reader.others l.initial.verdicts;
  reader : l.reader ≡ record l.initial.reader { others = l.reader.others };
}
