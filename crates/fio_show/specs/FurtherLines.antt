-- What follows the first line of a message. It stays in the frame until it is written.
use Rattle.std.specs.Prelude.{ℕ, List, [], ◌++◌, codes}
use Rattle.std.specs.List.{flat_map}
use Rattle.fio_message.specs.Views.{items_of, entries_of, body_of}
use Rattle.fio_show.specs.AnswerLines.{entry_text}
use Rattle.fio_show.specs.CommandLines.{body_text, item_text}
use Rattle.fio_show.specs.declared.further_lines.FurtherLines.{FurtherLines}
use Rattle.fio_show.specs.declared.further_lines.FurtherLines.TheVariants.{Nothing, Items, Entries, Body}

-- the text that follows: the lines of items, the lines of entries with the stamp of their answer, or a body and its line end
abbrev pub further_text : FurtherLines → List ℕ
further_text Nothing = []
further_text (Items items) = flat_map item_text (items_of items)
further_text (Entries entries stamp) = flat_map (entry_text stamp) (entries_of entries)
further_text (Body body) = body_text (body_of body) ++ codes "\n"
