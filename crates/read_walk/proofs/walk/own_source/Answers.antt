-- `read_walk::walk::own_source` meets its contract: by whether the source is spelt. Assumes nothing.
use mathlib.Core.Path.{◌≡◌, refl, sym, subst, ◌∙◌, ap}
use mathlib.Core.Bool.{Bool, true, cond}
use Prim.Native.Nat.{ℕ}
use lib.Dec.{eqb}
use Rattle.format_spelling.specs.Spelling.{◌⊕◌}
use Rattle.format_spelling.specs.Inner.Tally.{counts, Fits}
use Rattle.format_spelling.proofs.Sums.{join_same}
use Rattle.read_walk.specs.Inner.Source.{handed}
use Rattle.read_walk.specs.Inner.Spelt.{own_source}
use Rattle.read_walk.proofs.walk.own_source.Goals as goal

-- (helper, to look at)
counted : (named : Bool) (n : ℕ) (r : Bool) → named ≡ true → {sources repeated : ℕ} {b : Bool} → sources ≡ cond (eqb n 0) 0 1 → repeated ≡ cond b 1 0 → b ≡ r → own_source named n r ≡ record { padded = 0; filled = 0; sources = sources; repeated = repeated }
counted named n r e f g h = rw (e, f, g, h)

-- (helper, to look at)
told : (named : Bool) → named ≡ true → (own parent : ℕ) → own ≡ handed named own parent
told named e own parent = rw e

pub add-requires : goal.add-requires
add-requires c =
    subst (Fits (counts c.args.tally.now)) (counted c.args.named c.args.number _ c.if-named.true c.one_nested.ensures c.one_where.ensures c.repeats-repeated.ensures) c.requires

pub returns-then-named : goal.returns-then-named
returns-then-named c = record { value = c.unpadded.ensures ∙ told c.args.named c.if-named.true _ c.args.parent; tally_after = c.add.ensures ∙ ap (λ a. counts c.args.tally.now ⊕ a) (sym (counted c.args.named c.args.number _ c.if-named.true c.one_nested.ensures c.one_where.ensures c.repeats-repeated.ensures)) }

pub returns : goal.returns
returns c = rw c.if-named.false (record { value = refl; tally_after = sym (join_same (counts c.args.tally.now)) })
