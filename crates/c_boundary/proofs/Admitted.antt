-- A call that tests 21 and 22 first.
--     stops      where a limit or the chunk's length is refused: it is what the call answers
--     behind     where they are not: what the call answers is what it answers behind the test
-- Assumes nothing.
use Rattle.std.specs.Prelude.{Result, Ok, Err}
use mathlib.Core.Path.{◌≡◌, refl, ◌∙◌, ap}
use mathlib.Core.Bool.{Bool, true, false, cond}
use Prim.Native.Nat.{ℕ}
use native.Mathlib.Omega.{arith}
use lib.Dec.{leb}
use lib.ListN.{length}
use Rattle.format.specs.declared.limits.ResourceLimits.{ResourceLimits}
use Rattle.format.specs.declared.refusal.Refusal.{Refusal}
use Rattle.format.specs.declared.refusal.Refusal.TheVariants.{LimitAboveCeiling, InputBytes}
use Rattle.format.specs.Form.{Bytes}
use Rattle.format.specs.Limits.{within_ceilings}
use Rattle.c_boundary.specs.Status.{Answer, refuses, admitted, admits}

abbrev choose : Bool → Bool → Answer → Answer
choose within short a = cond within (cond short a (refuses InputBytes)) (refuses LimitAboveCeiling)

abbrev chosen : ResourceLimits → Bool → Bool → Result ResourceLimits Refusal
chosen L within short = cond within (cond short (Ok L) (Err InputBytes)) (Err LimitAboveCeiling)

module _ (L : ResourceLimits) (s : Bytes) where
  pub stops : (a : Answer) {q : Refusal} → Err q ≡ admits L s → refuses q ≡ admitted L s a
  stops a {q} e = go (within_ceilings L) (leb (length s) L.max_input_bytes) e
    where
      go : (b c : Bool) → Err q ≡ chosen L b c → refuses q ≡ choose b c a
      go true true e = absurd (let z : ◌≡◌ {A = ℕ} 0 1 = cc in omega arith)
      go true false e = cc
      go false c e = cc

  module _ {l : ResourceLimits} (told : Ok l ≡ admits L s) where
    pub own_limits : l ≡ L
    own_limits = go (within_ceilings L) (leb (length s) L.max_input_bytes) told
      where
        go : (b c : Bool) → Ok l ≡ chosen L b c → l ≡ L
        go true true e = cc
        go true false e = absurd (let z : ◌≡◌ {A = ℕ} 0 1 = cc in omega arith)
        go false c e = absurd (let z : ◌≡◌ {A = ℕ} 0 1 = cc in omega arith)

    -- `of` gives the numbers of what was read
    pub behind : {A : Type 0} (of : A → Answer) {x y : A} → x ≡ y → of x ≡ admitted L s (of y)
    behind of {x} {y} said = ap of said ∙ go (within_ceilings L) (leb (length s) L.max_input_bytes) told
      where
        go : (b c : Bool) → Ok l ≡ chosen L b c → of y ≡ choose b c (of y)
        go true true e = refl
        go true false e = absurd (let z : ◌≡◌ {A = ℕ} 0 1 = cc in omega arith)
        go false c e = absurd (let z : ◌≡◌ {A = ℕ} 0 1 = cc in omega arith)
