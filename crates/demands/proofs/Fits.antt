-- What bytes spell fits: a field of n bytes is below 256^n, so an integer constant of a chunk has 64 bits, and a delta is a byte.
--     little-fits      the value of bytes
--     integers_fit     the constants of a function that is located in a chunk
--     deltas_fit       its deltas
-- A chunk's bytes are below 256 (`Slices.antt`). Assumes nothing.
use mathlib.Core.Path.{◌≡◌}
use mathlib.Core.Bool.{Bool, true, false, cond}
use mathlib.Core.List.{List, [], ◌∷◌}
use mathlib.Core.Option.{some}
use Prim.Native.Nat.{ℕ, zero, suc, ◌+◌, ◌*◌, ◌^◌, ◌<◌}
use native.Mathlib.Nat.{pow-suc}
use native.Mathlib.Omega.{arith}
use lib.Dec.{eqb}
use lib.ListN.{length, take, drop, take-append-drop, get_elem?}
use lib.Seq.{length-take-le}
use Rattle.format.specs.declared.limits.ResourceLimits.{ResourceLimits}
use Rattle.format.specs.Form.{Bytes, Below}
use Rattle.format.specs.GrammarFields.{little}
use Rattle.format.specs.Reading.{ConstantValue, nil, boolean, integer, float, short_string, long_string, Prototype}
use Rattle.format.specs.Read.{Reader, run}
use Rattle.format.specs.ReadFields.{field}
use Rattle.format.specs.ReadChunk.{tagged, constant}
use Rattle.format.proofs.Below.{below_split}
use Rattle.format.proofs.Exact.{exact_run, exact_many}
use Rattle.format.proofs.ExactFields.{exact_field}
use Rattle.format.proofs.ExactChunk.{exact_always, exact_constant}
use Rattle.format.proofs.Steps.{run_was}
use Rattle.format.proofs.Located.{AtPlace, any, at_give, at-refuse, at_then, Located}
use Rattle.read_nth.proofs.Items.{many_nth}

pub little-fits : (b : Bytes) → Below 256 b → little b < 256 ^ length b
little-fits [] h = omega arith
little-fits (x ∷ xs) h = rw (pow-suc 256 (length xs)) (step x (little xs) (256 ^ length xs) h.0 (little-fits xs h.1))
  where
    step : (x v p : ℕ) → x < 256 → v < p → x + 256 * v < p * 256
    step x v p small less = omega arith

below_nth : (n : ℕ) (xs : List ℕ) → Below n xs → (i : ℕ) {x : ℕ} → get_elem? xs i ≡ some x → x < n
below_nth n [] h i e = absurd (let z : ◌≡◌ {A = ℕ} 0 1 = cc in omega arith)
below_nth n (y ∷ ys) h zero {x} e = let same : y ≡ x = cc in rw same at h.0
below_nth n (y ∷ ys) h (suc i) e = below_nth n ys h.1 i e

-- of a constant: an integer has 64 bits
abbrev pub IntegerFits : ConstantValue → Type 0
IntegerFits (integer n) = n < 2 ^ 64
IntegerFits nil = Unit {0}
IntegerFits (boolean b) = Unit {0}
IntegerFits (float n) = Unit {0}
IntegerFits (short_string t) = Unit {0}
IntegerFits (long_string t) = Unit {0}

module _ (s : Bytes) (below : Below 256 s) where
  below_part : (n at : ℕ) → Below 256 (take n (drop at s))
  below_part n at =
      let rest = (below_split 256 (take at s) (drop at s) (rw (take-append-drop at s) below)).1 in
      (below_split 256 (take n (drop at s)) (drop n (drop at s)) (rw (take-append-drop n (drop at s)) rest)).0

  at-run : (n at : ℕ) → AtPlace s at (run n) (λ to b. Below 256 b × (length b ≡ n))
  at-run n at = record { holds = λ e. let was = run_was n at (drop at s) e in rw (← was.1) (below_part n at, length-take-le n (drop at s) was.0) }

  at_field : (n at : ℕ) → AtPlace s at (field n) (λ to v. v < 256 ^ n)
  at_field n at = at_then (exact_run n) (at-run n at) λ b _ h. at_give (rw h.1 at (little-fits b h.0))

  abbrev Fitting : ℕ → ConstantValue → Type 0
  Fitting to k = IntegerFits k

  at_pick : {at : ℕ} (b : Bool) {one two : Reader ConstantValue} → AtPlace s at one Fitting → AtPlace s at two Fitting → AtPlace s at (cond b one two) Fitting
  at_pick true h k = h
  at_pick false h k = k

  at-tagged : (limit place tag at : ℕ) → AtPlace s at (tagged limit place tag) Fitting
  at-tagged limit place tag at =
      at_pick (eqb tag 0) (at_give tt)
      (at_pick (eqb tag 1) (at_give tt)
      (at_pick (eqb tag 17) (at_give tt)
      (at_pick (eqb tag 3) (at_then (exact_field 8) (at_field 8 at) λ n _ h. at_give h)
      (at_pick (eqb tag 19) (at_then (exact_field 8) any λ n _ _. at_give tt)
      (at_pick (eqb tag 4) (at_then (exact_always limit []) any λ t _ h. at_give tt)
      (at_pick (eqb tag 20) (at_then (exact_always limit []) any λ t _ h. at_give tt)
      at-refuse))))))

  at_constant : (limit at : ℕ) → AtPlace s at (constant limit) Fitting
  at_constant limit at = record { holds = λ e. (at_then {s = s} {at = at} (exact_field 1) any λ tag to _. at-tagged limit at tag to).holds e }

  module _ (L : ResourceLimits) (p : Prototype) (located : Located L s p) where
    pub integers_fit : (i : ℕ) (k : ConstantValue) → get_elem? p.constants i ≡ some k → IntegerFits k
    integers_fit i k e =
        let limit = L.max_string_bytes in
        let at = p.places.constants in
        (at_then {s = s} {at = at} (exact_many i (exact_constant limit)) any λ _ to _. at_constant limit to).holds (many_nth (constant limit) (length p.constants) located.constants i e).is

    pub deltas_fit : (i x : ℕ) → get_elem? p.line_info_lem i ≡ some x → x < 256
    deltas_fit i x e = below_nth 256 p.line_info_lem ((at-run (length p.line_info_lem) p.places.line_info_lem).holds located.line_info_lem.is).0 i e
