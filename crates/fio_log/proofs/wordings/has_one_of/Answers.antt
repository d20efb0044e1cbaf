use Rattle.std.proofs.Common.{◌≡◌, ◌+◌, true, false, not, ap, sym, ◌∙◌, drop, length, length-drop, map, arith}
use Rattle.std.specs.List.{position_or_len}
use Rattle.std.proofs.lemmas.List.{drop-drop}
use Rattle.std.proofs.lemmas.List.Sums.{prefix_len-le-length}
use Rattle.fio_log.specs.Wordings.{has_one_of, is_no_letter}
use Rattle.fio_log.proofs.WordingLemmas.{word_found, word_passed, word_tested, words_passed}
use Rattle.fio_log.proofs.wordings.has_one_of.Goals as goal

pub returns-then-is_one_of : goal.returns-then-is_one_of
returns-then-is_one_of c =
    let rest = drop c.words.start c.args.line.now in
    let found = word_tested c.args.known.now rest c.text_from.result.now c.first_word-word.result.now true c.text_from.ensures
    c.first_word-word.ensures.word (sym c.if-is_one_of.true ∙ c.is_one_of.ensures) in
    sym (c.words.invariant.rest c.words-test.true ∙ word_found c.args.known.now rest found)

pub words-preserved : goal.words-preserved
words-preserved c =
    let start = c.words.start in let line = c.args.line.now in let rest = drop start line in
    let passed = word_tested c.args.known.now rest c.text_from.result.now c.first_word-word.result.now false c.text_from.ensures
    c.first_word-word.ensures.word (sym c.if-is_one_of.false ∙ c.is_one_of.ensures) in
    let before = c.words.invariant.rest c.words-test.true in
    let count : length c.first_word-word.result.now ≡ position_or_len is_no_letter rest =
    c.first_word-word.ensures.count ∙ ap (position_or_len is_no_letter) c.text_from.ensures in
    let left = length-drop start line in
    let most = prefix_len-le-length (λ one. not (is_no_letter one)) rest in
    let known = map (λ one. one.now) c.args.known.now in
    let next : drop (position_or_len is_no_letter rest + 1) rest ≡ drop (start + (length c.first_word-word.result.now + 1)) line =
    drop-drop (position_or_len is_no_letter rest + 1) start line ∙ ap (λ n. drop (start + (n + 1)) line) (sym count) in
    record {
      within = omega (arith, count, left, most, c.words-test.true);
      rest = λ fits.
          before ∙ word_passed c.args.known.now rest passed (omega (arith, count, left, fits)) ∙ ap (has_one_of known) next;
      end = λ over. before ∙ words_passed c.args.known.now rest passed (omega (arith, count, left, over));
    }
