-- What kind of log a log looks like, as C sees it.
use Rattle.std.specs.Prelude.{ℕ, Bool, ◌==◌, not, take, Option, Some, None, if◌then◌else◌}
use Rattle.fio_check.specs.declared.block_order.BlockSeen.{BlockSeen}
use Rattle.fio_check.specs.declared.log_signs.LogSign.{LogSign}
use Rattle.fio_check.specs.declared.log_signs.LogSign.TheVariants.{BothEnds, EmptyLeftOut, Reversed, Twice, TwoLinks}
use Rattle.fio_check.specs.declared.log_signs.LogSigns.{LogSigns}
use Rattle.fio_c.specs.Checkers.{octet_if}
use Rattle.fio_check.specs.LogSigns.{signs_with}
use Rattle.fio_c.specs.BatchItems.{BatchItem}
use Rattle.fio_c.specs.LogJudges.{end_in, is_sent_frame}
use Rattle.fio_c.specs.declared.log_signs.FlatLogSigns.{FlatLogSigns}

-- the latest block answer
abbrev pub block_seen_of : FlatLogSigns → Option BlockSeen
block_seen_of flat = if flat.has_block == 0 then None else Some (record { number = flat.number; stamp = flat.stamp })

-- the counts that a struct of C represents, whatever its octets are
abbrev pub log_signs_in : FlatLogSigns → LogSigns
log_signs_in flat = record {
  frames = record {
    above = record { items = take flat.length flat.above };
    said = end_in flat.said;
    again = not (flat.again == 0);
    answers = flat.answers;
    repeated = flat.repeated;
    contrary = flat.contrary;
  };
  order = record { above = block_seen_of flat; blocks = flat.blocks; backward = flat.backward };
  rows = record {
    first = octet_if flat.has_first flat.first;
    second = octet_if flat.has_second flat.second;
    changes = flat.changes;
    jumps = flat.jumps;
  };
  left_out = record {
    waits = octet_if flat.waits flat.polled;
    polls = flat.polls;
    passed = flat.passed;
    others = flat.others;
    empty = flat.empty;
  };
}

-- with an item of a batch more: the frames of a line that is none of frames are not taken
abbrev pub signs_with_item : Bool → LogSigns → BatchItem → LogSigns
signs_with_item as_said signs (verdict, None) = signs
signs_with_item as_said signs (verdict, Some octets) = if verdict.kind == 1
    then signs_with signs (is_sent_frame as_said (end_in verdict.said) octets) (end_in verdict.said) octets
    else signs

-- the number of a sign
abbrev pub sign_number : Option LogSign → ℕ
sign_number None = 0
sign_number (Some Twice) = 1
sign_number (Some BothEnds) = 2
sign_number (Some Reversed) = 3
sign_number (Some TwoLinks) = 4
sign_number (Some EmptyLeftOut) = 5
