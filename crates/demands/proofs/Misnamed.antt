-- A wrong reader that Blame.antt refuses and demand 1's other laws let pass: an upvalue count that is above its limit
-- is refused, at its place, by the number of another limit that it happens to be above too (14 in
-- place of 17).
--     accepts_the_same     it accepts exactly what the right one accepts, so that demand 3 says nothing of it
--     misnamed_in_order    it is in byte order, each refusal for its cause (Order.antt); misnamed_steady: it lacks
--                          bytes where it says so (CutShort.antt)
--     misnamed_continues   it goes on (Continued.antt); misnamed_limited: the limits cause what they cause
--                          (ByLimits.antt)
--     told_apart           and it is another reader: a count of 1, where both limits are 0
-- Assumes nothing.
use mathlib.Core.Path.{◌≡◌, refl}
use mathlib.Core.Bool.{Bool, true, false, cond}
use mathlib.Core.List.{[], ◌∷◌, ◌++◌}
use mathlib.Core.Logic.{◌↔◌}
use Prim.Native.Nat.{ℕ, ◌<◌}
use native.Mathlib.Omega.{arith}
use lib.Dec.{leb}
use borrow.Author.Tests.{leb-false}
use Rattle.format.specs.declared.limits.ResourceLimits.{ResourceLimits}
use Rattle.format.specs.declared.refusal.Refusal.{Refusal}
use Rattle.format.specs.declared.refusal.Refusal.TheVariants as q
use Rattle.format.specs.Refusals.{reported}
use Rattle.format.specs.Form.{Bytes}
use Rattle.format.specs.GrammarFields.{Number}
use Rattle.format.specs.Read.{Read, ok, refused, Reader, next, ◌>>=◌, give, here, test, at_most}
use Rattle.format.specs.ReadFields.{number}
use Rattle.format.proofs.Exact.{exact_at_most}
use Rattle.format.proofs.ExactFields.{exact_number}
use Rattle.demands.proofs.Causes.{ordinary, cause_by, Ends}
use Rattle.demands.proofs.InOrder.{Steady, Tested, tested, own, steady_give, steady_here, steady_then, steady_at_most, steady_number}
use Rattle.demands.proofs.Early.{Early, early_give, early_numbered, soon_test, soon_early, too_many}
use Rattle.demands.proofs.Order.{decided, InByteOrder}
use Rattle.demands.proofs.Continued.{Continues, on-give, on-here, on_then, on-at_most, on-number}
use Rattle.demands.proofs.ByLimits.{ByLimit, Limited, Agrees, same, limit, limited-give, limited-here, limited_then}

-- the number of another limit, where that is passed too
abbrev pub wrongly : ResourceLimits → ℕ → ℕ → Refusal
wrongly L first n = cond (leb n L.max_instructions_per_proto) (q.Upvalues first) (q.Instructions first)

abbrev pub misnamed : ResourceLimits → Reader ℕ
misnamed L =
    here >>= λ first. number >>= λ n. at_most n L.max_upvalues_per_proto (wrongly L first n) >>= λ _. give n

abbrev pub named : ResourceLimits → Reader ℕ
named L = here >>= λ first. number >>= λ n. at_most n L.max_upvalues_per_proto (q.Upvalues first) >>= λ _. give n

-- ## In byte order, each for its cause
module _ (L : ResourceLimits) where
  wrong_tested : (first n : ℕ) → Tested ordinary first (wrongly L first n)
  wrong_tested first n = by (leb n L.max_instructions_per_proto)
    where
      by : (b : Bool) → Tested ordinary first (cond b (q.Upvalues first) (q.Instructions first))
      by true = tested (q.Upvalues first) refl refl own
      by false = tested (q.Instructions first) refl refl own

  pub misnamed_steady : Steady ordinary 0 (misnamed L)
  misnamed_steady = steady_here λ first. steady_then steady_number λ n. steady_then (steady_at_most n L.max_upvalues_per_proto (wrongly L first n) (wrong_tested first n)) λ _. steady_give n

  cause : (first n : ℕ) (bytes : Bytes) → Number first bytes n → L.max_upvalues_per_proto < n
      → Ends (cause_by ordinary L (wrongly L first n)) first (bytes ++ [])
  cause first n bytes d h = by (leb n L.max_instructions_per_proto) refl
    where
      by : (b : Bool) → leb n L.max_instructions_per_proto ≡ b
          → Ends (cause_by ordinary L (cond b (q.Upvalues first) (q.Instructions first))) first (bytes ++ [])
      by true e = too_many ordinary first n L.max_upvalues_per_proto bytes d tt h
      by false e =
          too_many ordinary first n L.max_instructions_per_proto bytes d tt (leb-false n L.max_instructions_per_proto e)

  misnamed_early : Early ordinary L (misnamed L)
  misnamed_early =
      early_numbered (λ first n. at_most n L.max_upvalues_per_proto (wrongly L first n) >>= λ _. give n) λ first n bytes d.
      soon_test (give n) (leb n L.max_upvalues_per_proto) (wrongly L first n) (λ e. cause first n bytes d (leb-false n L.max_upvalues_per_proto e)) (soon_early (early_give n))

  pub misnamed_in_order : InByteOrder L (misnamed L)
  misnamed_in_order s p e = decided L (misnamed L) misnamed_steady misnamed_early 0 s p e

  -- ## It goes on
  later : (first n : ℕ) → 2 < (reported (wrongly L first n)).number
  later first n = by (leb n L.max_instructions_per_proto)
    where
      by : (b : Bool) → 2 < (reported (cond b (q.Upvalues first) (q.Instructions first))).number
      by true = omega arith
      by false = omega arith

  pub misnamed_continues : Continues (misnamed L)
  misnamed_continues = on-here λ first. on_then exact_number on-number λ n. on_then (exact_at_most n L.max_upvalues_per_proto (wrongly L first n)) (on-at_most n L.max_upvalues_per_proto (wrongly L first n) (later first n)) λ _. on-give n

  by_limit : (first n : ℕ) → ByLimit (wrongly L first n)
  by_limit first n = by (leb n L.max_instructions_per_proto)
    where
      by : (b : Bool) → ByLimit (cond b (q.Upvalues first) (q.Instructions first))
      by true = limit (q.Upvalues first) refl refl
      by false = limit (q.Instructions first) refl refl

-- ## By the limits
two_tests : (b c : Bool) (p p' : Refusal) → ByLimit p → Limited (test b p) (test c p')
two_tests b c p p' is = record { agrees = λ at s x to rest e. go at s x to rest c e b }
  where
    go : (at : ℕ) (s : Bytes) (x : Unit {0}) (to : ℕ) (rest : Bytes) (c : Bool) → test c p' at s ≡ ok x to rest
        → (b : Bool) → Agrees x to rest (test b p at s)
    go at s x to rest true e true = e
    go at s x to rest true e false = is
    go at s x to rest false e b = absurd (let z : ◌≡◌ {A = ℕ} 0 1 = cc in omega arith)

pub misnamed_limited : (L M : ResourceLimits) → Limited (misnamed L) (misnamed M)
misnamed_limited L M = limited-here λ first. limited_then (same number) λ n. limited_then (two_tests (leb n L.max_upvalues_per_proto) (leb n M.max_upvalues_per_proto) (wrongly L first n) (wrongly M first n) (by_limit L first n)) λ _. limited-give n

-- ## It accepts what the right one accepts
pub accepts_the_same : (L : ResourceLimits) (at : ℕ) (s : Bytes) (x to : ℕ) (rest : Bytes)
    → (named L at s ≡ ok x to rest) ↔ (misnamed L at s ≡ ok x to rest)
accepts_the_same L at s x to rest = by_number (number at s)
  where
    by_test : (b : Bool) (p p' : Refusal) (n t : ℕ) (u : Bytes)
        → (next (test b p t u) (λ _. give n) ≡ ok x to rest) ↔ (next (test b p' t u) (λ _. give n) ≡ ok x to rest)
    by_test true p p' n t u = (λ e. e, λ e. e)
    by_test false p p' n t u =
        (λ e. absurd (let z : ◌≡◌ {A = ℕ} 0 1 = cc in omega arith), λ e. absurd (let z : ◌≡◌ {A = ℕ} 0 1 = cc in omega arith))

    by_number : (o : Read ℕ) → (next o (λ n. at_most n L.max_upvalues_per_proto (q.Upvalues at) >>= λ _. give n) ≡ ok x to rest) ↔ (next o (λ n. at_most n L.max_upvalues_per_proto (wrongly L at n) >>= λ _. give n) ≡ ok x to rest)
    by_number (ok n t u) = by_test (leb n L.max_upvalues_per_proto) (q.Upvalues at) (wrongly L at n) n t u
    by_number (refused p) = (λ e. e, λ e. e)

-- ## And it is wrong
abbrev pub none : ResourceLimits
none = record {
  max_input_bytes = 9;
  max_nesting_depth = 9;
  max_total_prototypes = 9;
  max_instructions_per_proto = 0;
  max_total_instructions = 9;
  max_constants_per_proto = 9;
  max_upvalues_per_proto = 0;
  max_string_bytes = 9;
  max_diagnostics = 9;
}

pub told_apart : (named none 0 (0x81 ∷ []) ≡ refused (q.Upvalues 0)) × (misnamed none 0 (0x81 ∷ []) ≡ refused (q.Instructions 0))
told_apart = (refl, refl)
