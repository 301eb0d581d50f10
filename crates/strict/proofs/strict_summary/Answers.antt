-- `strict::strict_summary` meets its contract: by the two tests of the caller's side and what judging showed (`Opened.antt`). Assumes nothing.
use Rattle.std.proofs.lemmas.Result.{err_from_is_err_and}
use mathlib.Core.Path.{sym, ◌∙◌, ap}
use Rattle.format_spelling.specs.ReadSpelling.{spelling}
use Rattle.read_chunk.proofs.Summaries.{in_ceilings}
use Rattle.show_chunk.specs.Summaries.{shown_summary}
use Rattle.strict.proofs.Opened.{above, too_long, refused_so, same-reading}
use Rattle.strict.proofs.strict_summary.Goals as goal

pub returns-then-not-within : goal.returns-then-not-within
returns-then-not-within c = let a = c.args in above a.limits a.s.now (spelling a.limits a.s.now) (sym c.within_ceilings-within.ensures ∙ c.if-not-within.true)

pub returns-then-limits-s : goal.returns-then-limits-s
returns-then-limits-s c = let a = c.args in too_long a.limits a.s.now (spelling a.limits a.s.now) (sym c.within_ceilings-within.ensures ∙ c.if-not-within.false) c.if-limits-s.true

pub judge-requires : goal.judge-requires
judge-requires c = let l = in_ceilings c.args.limits (sym c.within_ceilings-within.ensures ∙ c.if-not-within.false) in (l.1, l.0)

pub returns-in_err-judge : goal.returns-in_err-judge
returns-in_err-judge c =
    let p = err_from_is_err_and c.from_residual.result c.from_residual.ensures.1 in
    rw (p.1, p.2) (let a = c.args in
    refused_so a.limits a.s.now (spelling a.limits a.s.now) (sym c.within_ceilings-within.ensures ∙ c.if-not-within.false) c.if-limits-s.false _ (sym c.in_err-judge.was ∙ c.judge.ensures))

pub returns : goal.returns
returns c =
    let a = c.args in
    c.chunk_summary.ensures
    ∙ ap (shown_summary (spelling a.limits a.s.now)) (same-reading a.limits a.s.now (spelling a.limits a.s.now) (sym c.within_ceilings-within.ensures ∙ c.if-not-within.false) c.if-limits-s.false _ (sym c.in_ok-judge.was ∙ c.judge.ensures))
