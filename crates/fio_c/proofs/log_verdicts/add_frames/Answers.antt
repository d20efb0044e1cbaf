use Rattle.std.proofs.Common.{◌≡◌, ◌<◌, ◌+◌, ◌∙◌, true, [], refl, subst, arith, length, take}
use Rattle.std.proofs.lemmas.List.Elements.{All-nil, All-push}
use Rattle.std.specs.List.{All}
use Rattle.fio_log.specs.OwnTexts.{spells}
use Rattle.fio_log.specs.Telling.{frames_of}
use Rattle.fio_log.proofs.OwnTextLemmas.{spelled_short}
use Rattle.fio_c.proofs.Batches.{next_frame, no_frame, octets_next, octets_within, one_more}
use Rattle.fio_c.proofs.log_verdicts.add_frames.Goals as goal

pub frames-init : goal.frames-init
frames-init c = record {
  within = omega arith;
  added = λ content holds. no_frame content c.args.batch.now holds;
  spelled = All-nil _;
  count = omega arith;
  octets = omega arith;
  verdicts = refl;
  places = refl;
}

pub push_frame-requires : goal.push_frame-requires
push_frame-requires c =
    let frames = frames_of c.args.reader.now in
    let octets = c.in-Some.octets.now in
    let inside : c.frames.index < length frames = c.in-Some.ensures.given.0 refl in
    record {
      frames = omega (arith, inside, c.frames.invariant.count, c.requires.frames, c.requires.few.frames);
      octets = omega (
        arith,
        c.frames.invariant.octets,
        c.requires.octets,
        c.requires.few.octets,
        octets_within frames (c.frames.index + 1),
        octets_next frames c.frames.index octets inside c.in-Some.ensures.same,
      );
      short = omega (arith, spelled_short octets c.in-Some.ensures.spelled);
    }

pub frames-preserved : goal.frames-preserved
frames-preserved c =
    let frames = frames_of c.args.reader.now in
    let octets = c.in-Some.octets.now in
    let index = c.frames.index in
    let inside : index < length frames = c.in-Some.ensures.given.0 refl in
    let same = c.in-Some.ensures.same in
    record {
      within = omega (arith, inside);
      added = λ content holds. next_frame content frames index octets c.frames.batch c.push_frame.new.self inside same c.push_frame.ensures.added
          (c.frames.invariant.added content holds);
      spelled = subst (All (λ frame. spells frame ≡ true)) (one_more [] frames index [] octets inside same)
          (All-push (λ frame. spells frame ≡ true) (take index frames) octets c.frames.invariant.spelled c.in-Some.ensures.spelled);
      count = omega (arith, c.push_frame.ensures.frames, c.frames.invariant.count);
      octets = omega (arith, c.push_frame.ensures.octets, c.frames.invariant.octets, octets_next frames index octets inside same);
      verdicts = c.push_frame.ensures.verdicts ∙ c.frames.invariant.verdicts;
      places = c.push_frame.ensures.places ∙ c.frames.invariant.places;
    }
