-- What the fields of the judge of a link mean.
use Rattle.fio_check.specs.ContentKept.{content_checking}
use Rattle.fio_check.specs.LinkJudges.{Judging}
use Rattle.fio_check.specs.declared.link_judge.LinkJudge.{LinkJudge}

-- a judge, by its fields
abbrev pub judging : LinkJudge → Judging
judging judge = record {
  checker = judge.checker;
  content = content_checking judge.content;
  latest = judge.latest;
  asked = judge.asked;
  polls = judge.polls;
}
