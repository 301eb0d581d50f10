-- `copy_full::plain::is_plain_in_full` meets its contract. Assumes nothing.
use mathlib.Core.Path.{◌≡◌, sym, ap}
use native.Mathlib.Omega.{arith}
use borrow.Author.Tests.{ne_eqb}
use lib.Dec.{eqb}
use Rattle.format_spelling.specs.Spelling.{respelt_full}
use Rattle.copy_full.proofs.plain.is_plain_in_full.Goals as goal

pub returns-then-spelling-gt0 : goal.returns-then-spelling-gt0
returns-then-spelling-gt0 c = sym (ne_eqb (respelt_full c.args.spelling) 0 (λ z. omega (arith, z, c.if-spelling-gt0.true)))

pub returns-then-spelling-gt0-2 : goal.returns-then-spelling-gt0-2
returns-then-spelling-gt0-2 c = sym (ne_eqb (respelt_full c.args.spelling) 0 (λ z. omega (arith, z, c.if-spelling-gt0-2.true)))

pub returns : goal.returns
returns c =
    let a = c.args.spelling in
    let only : a.repeated ≡ respelt_full a = omega (arith, c.if-spelling-gt0-2.false, c.if-spelling-gt0.false) in
    ap (λ n. eqb n 0) only
