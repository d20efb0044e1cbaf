use Rattle.fio_tool.proofs.Names.{◌≡◌, ◌++◌, ◌&&◌, ◌≤◌, length, flat_map, list_all, lines_of, numbered, line_text, is_line_good}
use Rattle.fio_tool.proofs.reports.show.show_text.Given as goal

abbrev pub invariant-lines : goal.invariant-lines
invariant-lines l = record {
  text :
      l.text.items ++ flat_map line_text l.number-iterator
      ≡ flat_map line_text (numbered 1 (lines_of l.input));
  good :
      l.good && list_all is_line_good l.number-iterator
      ≡ list_all is_line_good (numbered 1 (lines_of l.input));
  left : length l.number-iterator ≤ length (numbered 1 (lines_of l.input));
}
