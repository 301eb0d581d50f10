-- A wrong reader that demand 1's laws let pass, and Blame.antt with them: an unknown tag from 128 on is taken for a
-- string's size, and named as a string that is too long (13) where that is above the limit; else it is 12.
--     blaming_in_order, blaming_steady, blaming_continues, blaming_limited     it passes Order.antt, CutShort.antt,
-- Continued.antt, ByLimits.antt
--     blaming_stays    and Blame.antt
--     not_blaming      and is refused by Fault.antt
-- Assumes nothing.
use mathlib.Core.Path.{◌≡◌, refl, sym, ◌∙◌, ap, subst}
use mathlib.Core.Bool.{Bool, true, false, cond}
use mathlib.Core.List.{[], ◌∷◌, ◌++◌}
use Prim.Native.Nat.{ℕ, ◌+◌, ◌%◌, ◌<◌}
use native.Mathlib.Omega.{arith}
use native.Mathlib.Nat.{add-zero}
use lib.Dec.{leb, ltb, eqb}
use lib.ListN.{length}
use borrow.Author.Tests.{leb-true, ltb-true, ltb-false, le-ltb}
use Rattle.format.specs.declared.limits.ResourceLimits.{ResourceLimits}
use Rattle.format.specs.declared.refusal.Refusal.{Refusal}
use Rattle.format.specs.declared.refusal.Refusal.TheVariants as q
use Rattle.format.specs.Form.{Bytes}
use Rattle.format.specs.Refusals.{reported}
use Rattle.format.specs.GrammarFields.{Field}
use Rattle.format.specs.Read.{refused, Reader, ◌>>=◌, give, here, refuse}
use Rattle.format.specs.ReadFields.{byte}
use Rattle.format.proofs.ExactFields.{exact_field}
use Rattle.demands.proofs.Causes.{ordinary, cause_by, Ends}
use Rattle.demands.proofs.InOrder.{Steady, Tested, tested, own, steady_give, steady_here, steady_then, steady_pick, steady_refuse, steady_field}
use Rattle.demands.proofs.Early.{Early, Soon, early_give, early_field, early_first, soon_early, soon_pick, soon_refuse, no_tag_lem, read_byte}
use Rattle.demands.proofs.Order.{decided, InByteOrder}
use Rattle.demands.proofs.Continued.{Continues, on-give, on-here, on_then, on_pick, on-refuse, on-field}
use Rattle.demands.proofs.ByLimits.{Limited, same, limited-give, limited-here, limited_then, limited_pick}
use Rattle.demands.proofs.Blame.{Raised, Stays, SameNamed}
use Rattle.demands.proofs.Blame as blame
use Rattle.demands.proofs.Fault.{Cures, Mild, NoFault}

-- what an unknown tag is refused by
abbrev pub faulted : ℕ → ℕ → ℕ → Refusal
faulted limit place tag =
    cond (leb 128 tag) (cond (ltb (limit + 1) (tag % 128)) (q.StringBytes place) (q.ConstantTag place)) (q.ConstantTag place)

abbrev pub tagged_so : ℕ → ℕ → ℕ → Reader (Unit {0})
tagged_so limit place tag =
    cond (eqb tag 0) (give tt)
    (cond (eqb tag 1) (give tt)
    (cond (eqb tag 17) (give tt)
    (cond (eqb tag 3) (give tt)
    (cond (eqb tag 19) (give tt)
    (cond (eqb tag 4) (give tt)
    (cond (eqb tag 20) (give tt)
    (refuse (faulted limit place tag))))))))

abbrev pub blaming : ResourceLimits → Reader (Unit {0})
blaming L = here >>= λ place. byte >>= λ tag. tagged_so L.max_string_bytes place tag

-- ## The laws of demand 1
module _ (L : ResourceLimits) where
  abbrev limit : ℕ
  limit = L.max_string_bytes

  fault_tested : (place tag : ℕ) → Tested ordinary place (faulted limit place tag)
  fault_tested place tag = by (leb 128 tag) (ltb (limit + 1) (tag % 128))
    where
      by : (b c : Bool) → Tested ordinary place (cond b (cond c (q.StringBytes place) (q.ConstantTag place)) (q.ConstantTag place))
      by true true = tested (q.StringBytes place) refl refl own
      by true false = tested (q.ConstantTag place) refl refl own
      by false c = tested (q.ConstantTag place) refl refl own

  pub blaming_steady : Steady ordinary 0 (blaming L)
  blaming_steady = steady_here λ place. steady_then (steady_field 1 refl) λ tag.
      steady_pick (eqb tag 0) (steady_give _)
      (steady_pick (eqb tag 1) (steady_give _)
      (steady_pick (eqb tag 17) (steady_give _)
      (steady_pick (eqb tag 3) (steady_give _)
      (steady_pick (eqb tag 19) (steady_give _)
      (steady_pick (eqb tag 4) (steady_give _)
      (steady_pick (eqb tag 20) (steady_give _)
      (steady_refuse (faulted limit place tag) (fault_tested place tag))))))))

  cause : (place tag : ℕ) (bytes : Bytes) → Field 1 place bytes tag → eqb tag 0 ≡ false → eqb tag 1 ≡ false
      → eqb tag 17 ≡ false → eqb tag 3 ≡ false → eqb tag 19 ≡ false → eqb tag 4 ≡ false → eqb tag 20 ≡ false
      → Ends (cause_by ordinary L (faulted limit place tag)) place (bytes ++ [])
  cause place tag bytes d k0 k1 k17 k3 k19 k4 k20 = by (leb 128 tag) refl (ltb (limit + 1) (tag % 128)) refl
    where
      by : (b : Bool) → leb 128 tag ≡ b → (c : Bool) → ltb (limit + 1) (tag % 128) ≡ c
          → Ends (cause_by ordinary L (cond b (cond c (q.StringBytes place) (q.ConstantTag place)) (q.ConstantTag place))) place (bytes ++ [])
      by true t true u = record {
        before = [];
        spelling = tag ∷ [];
        value = tag % 128;
        whole = read_byte place bytes tag d;
        begins = sym (add-zero place);
        is = record { more = []; last = tag; whole = refl; small = tt; closes = leb-true 128 tag t; value = omega arith; fits = omega arith };
        so = ltb-true (limit + 1) (tag % 128) u;
      }
      by true t false u = no_tag_lem place tag bytes d k0 k1 k17 k3 k19 k4 k20
      by false t c u = no_tag_lem place tag bytes d k0 k1 k17 k3 k19 k4 k20

  soon_so : (place tag : ℕ) (bytes : Bytes) → Field 1 place bytes tag
      → Soon ordinary L (λ p. Ends (cause_by ordinary L p) place (bytes ++ [])) (tagged_so limit place tag)
  soon_so place tag bytes d =
      soon_pick (eqb tag 0) (soon_early (early_give _)) λ k0.
      soon_pick (eqb tag 1) (soon_early (early_give _)) λ k1.
      soon_pick (eqb tag 17) (soon_early (early_give _)) λ k17.
      soon_pick (eqb tag 3) (soon_early (early_give _)) λ k3.
      soon_pick (eqb tag 19) (soon_early (early_give _)) λ k19.
      soon_pick (eqb tag 4) (soon_early (early_give _)) λ k4.
      soon_pick (eqb tag 20) (soon_early (early_give _)) λ k20.
      soon_refuse (faulted limit place tag) (cause place tag bytes d k0 k1 k17 k3 k19 k4 k20)

  blaming_early : Early ordinary L (blaming L)
  blaming_early = early_first (tagged_so limit) (exact_field 1) (early_field 1) soon_so

  pub blaming_in_order : InByteOrder L (blaming L)
  blaming_in_order s p e = decided L (blaming L) blaming_steady blaming_early 0 s p e

  fault_late : (place tag : ℕ) → 2 < (reported (faulted limit place tag)).number
  fault_late place tag = by (leb 128 tag) (ltb (limit + 1) (tag % 128))
    where
      by : (b c : Bool) → 2 < (reported (cond b (cond c (q.StringBytes place) (q.ConstantTag place)) (q.ConstantTag place))).number
      by true true = omega arith
      by true false = omega arith
      by false c = omega arith

  pub blaming_continues : Continues (blaming L)
  blaming_continues = on-here λ place. on_then (exact_field 1) (on-field 1) λ tag.
      on_pick (eqb tag 0) (on-give _)
      (on_pick (eqb tag 1) (on-give _)
      (on_pick (eqb tag 17) (on-give _)
      (on_pick (eqb tag 3) (on-give _)
      (on_pick (eqb tag 19) (on-give _)
      (on_pick (eqb tag 4) (on-give _)
      (on_pick (eqb tag 20) (on-give _)
      (on-refuse (faulted limit place tag) (fault_late place tag))))))))

-- two refusals
refused-both : (p p' : Refusal) → Limited {A = Unit {0}} (refuse p) (refuse p')
refused-both p p' = record { agrees = λ at s x to rest e. absurd (let z : ◌≡◌ {A = ℕ} 0 1 = cc in omega arith) }

pub blaming_limited : (L M : ResourceLimits) → Limited (blaming L) (blaming M)
blaming_limited L M = limited-here λ place. limited_then (same byte) λ tag.
    limited_pick (eqb tag 0) (limited-give _)
    (limited_pick (eqb tag 1) (limited-give _)
    (limited_pick (eqb tag 17) (limited-give _)
    (limited_pick (eqb tag 3) (limited-give _)
    (limited_pick (eqb tag 19) (limited-give _)
    (limited_pick (eqb tag 4) (limited-give _)
    (limited_pick (eqb tag 20) (limited-give _)
    (refused-both (faulted L.max_string_bytes place tag) (faulted M.max_string_bytes place tag))))))))

-- ## Blame.antt
module _ (L M : ResourceLimits) (wide : Raised L M) where
  stays_refuse : (p p' : Refusal) → (SameNamed L M p → p ≡ p') → Stays {A = Unit {0}} L M (refuse p) (refuse p')
  stays_refuse p p' held = record {
    accepts = λ at s x to rest e. absurd (let z : ◌≡◌ {A = ℕ} 0 1 = cc in omega arith);
    refuses =
        λ at s k e named. (let h : p ≡ k = cc in ap refused (sym (held (subst (SameNamed L M) (sym h) named)) ∙ h));
  }

  held : (place tag : ℕ) → SameNamed L M (faulted L.max_string_bytes place tag)
      → faulted L.max_string_bytes place tag ≡ faulted M.max_string_bytes place tag
  held place tag = by (leb 128 tag) (ltb (L.max_string_bytes + 1) (tag % 128)) refl
    where
      by : (b c : Bool) → ltb (L.max_string_bytes + 1) (tag % 128) ≡ c
          → SameNamed L M (cond b (cond c (q.StringBytes place) (q.ConstantTag place)) (q.ConstantTag place))
          → cond b (cond c (q.StringBytes place) (q.ConstantTag place)) (q.ConstantTag place) ≡ cond b (cond (ltb (M.max_string_bytes + 1) (tag % 128)) (q.StringBytes place) (q.ConstantTag place)) (q.ConstantTag place)
      by true true u k = let limits : L.max_string_bytes ≡ M.max_string_bytes = k (omega arith) (omega arith) in ap (λ t. cond t (q.StringBytes place) (q.ConstantTag place)) (sym u ∙ ap (λ l. ltb (l + 1) (tag % 128)) limits)
      by true false u k = let low = ltb-false (L.max_string_bytes + 1) (tag % 128) u in let high = wide.strings in ap (λ t. cond t (q.StringBytes place) (q.ConstantTag place)) (sym (le-ltb (M.max_string_bytes + 1) (tag % 128) (omega arith)))
      by false c u k = refl

  pub blaming_stays : Stays L M (blaming L) (blaming M)
  blaming_stays = blame.stays_here L M λ place. blame.stays_then L M (blame.same L M byte) λ tag.
      blame.stays_pick L M (eqb tag 0) (blame.same L M (give tt))
      (blame.stays_pick L M (eqb tag 1) (blame.same L M (give tt))
      (blame.stays_pick L M (eqb tag 17) (blame.same L M (give tt))
      (blame.stays_pick L M (eqb tag 3) (blame.same L M (give tt))
      (blame.stays_pick L M (eqb tag 19) (blame.same L M (give tt))
      (blame.stays_pick L M (eqb tag 4) (blame.same L M (give tt))
      (blame.stays_pick L M (eqb tag 20) (blame.same L M (give tt))
      (stays_refuse (faulted L.max_string_bytes place tag) (faulted M.max_string_bytes place tag) (held place tag))))))))

-- ## Fault.antt refuses it
abbrev strings : ℕ → ResourceLimits
strings n = record {
  max_input_bytes = 9;
  max_nesting_depth = 9;
  max_total_prototypes = 9;
  max_instructions_per_proto = 9;
  max_total_instructions = 9;
  max_constants_per_proto = 9;
  max_upvalues_per_proto = 9;
  max_string_bytes = n;
  max_diagnostics = 9;
}

pub not_blaming : Cures (blaming (strings 3)) (blaming (strings 9)) → ⊥
not_blaming cures =
    let c = cures.cured 0 (0x85 ∷ []) (q.StringBytes 0) refl refl in go c.front c.rest c.whole c.same c.mild
  where
    go : (front rest : Bytes) → 0x85 ∷ [] ≡ front ++ rest → blaming (strings 3) 0 front ≡ refused (q.StringBytes 0)
        → Mild (blaming (strings 9) 0 front) → ⊥
    go [] rest e s k = let z : ◌≡◌ {A = ℕ} 0 1 = cc in omega arith
    go (a ∷ []) rest e s k = let is : a ≡ 0x85 = cc in let bad : NoFault (q.ConstantTag 0) = subst (λ a. Mild (blaming (strings 9) 0 (a ∷ []))) is k in let z : ◌≡◌ {A = ℕ} 0 1 = cc in omega arith
    go (a ∷ b ∷ front) rest e s k =
        let bad : length {A = ℕ} (0x85 ∷ []) ≡ length (a ∷ b ∷ (front ++ rest)) = ap length e in omega (arith, bad)
