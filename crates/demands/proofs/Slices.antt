-- A law of slices: the bytes of a `&[u8]` are below 256. It is the kit's (what a slice owns says it of its entries, borrow.Rule.Slice.Know); here it is put to use for whole calls.
--     all-below        entries that each fit a byte are below 256
--     bytes_known      a call whose first parameter is a `&[u8]` and that meets a contract meets every contract that follows from it where the slice's bytes are below 256.
--                      So nobody who calls has to believe that they are
--     bytes_told       the least of these: the contract itself, and that the bytes are below 256
-- Assumes nothing.
use Prim.Native.Nat.{ℕ, suc}
use mathlib.Core.List.{List, [], ◌∷◌}
use seplogic.Ra.Ura.{Ura}
use mir.Syntax.{w8, named}
use mir.Val.{Val}
use base.Logic.{SProp, ent, sep, emp, guard, via, emp∗, mono_l, mono_r, ex_i, ex_e, guard_i, guard_e}
use base.Fml.{Lft, Share, Fml, fsep, flft}
use prog.Routine.{Routine}
use prog.Model.{Model}
use types.Logic.{Logic, sem}
use types.Kit.{‵, ◌⊛◌, raw, later, given, ◌$◌, !, qed, move, use2, split, join, fsplit, fjoin, await, learn, updating, now, check, done, feq_l, feq_i}
use contract.Monad.{fact, fm→mono}
use contract.Lifetimes.{Lfts, Outlives, toks}
use contract.Running.{Running}
use denote.Builtin as builtin
use denote.RattleType.{owns}
use denote.Ref.{Bor}
use denote.Signature.{Signature, Slot, plain, types_at}
use denote.Slice.{ShrSlice, shr_slice_vals}
use denote.Triple.Bound.{passed}
use denote.Triple.Clauses.{Clauses, Ended, Lasts, AtExit, at_exit, lasts, ensured, closing}
use denote.Triple.End.{Kepts}
use denote.Triple.Entry.{Args, Res}
use denote.Triple.Spec.{Spec, Back, triple_of, Meets}
use denote.Triple.Table.{run_framed, run_Enters}
use borrow.Table.Referent.{f_int}
use borrow.Rule.Slice.Know.{AllWt, shs_known}
use borrow.Rule.Slice.Shared.{OwnH}
use Rattle.format.specs.Form.{Bytes, Below}

pub all-below : (bytes : Bytes) → AllWt (f_int w8) bytes → Below 256 bytes
all-below [] a = tt
all-below (x ∷ xs) a = (a.0.fits, all-below xs a.1)

-- what a `&[u8]` owns, with a token of its lifetime, says so
module _ {M : Type 1} {𝓤 : Ura M} (𝓛 : Logic 𝓤) (κ : Lft) (q : Share) (x : Bor Bytes) (vs : List Val) where
  open 𝓛 use {H, A}

  abbrev Owned : Fml
  Owned = (ShrSlice (named 0) κ builtin.u8).own_val x vs

  abbrev Inner : Fml
  Inner = OwnH 𝓛 (f_int w8) κ q x.ref_ptr.0 x.ref_ptr.1 x.now

  owned_known : ent 𝓤 (sep 𝓤 (sem 𝓛 Owned) (A.lft κ q)) (H.⇛ (guard 𝓤 (Below 256 x.now) (sep 𝓤 (sem 𝓛 Owned) (A.lft κ q))))
  owned_known =
      qed 𝓛 (‵ Owned ∷ ‵ (flft κ q) ∷ []) {P = H.⇛ (guard 𝓤 (Below 256 x.now) (sep 𝓤 (sem 𝓛 Owned) (A.lft κ q)))} (
      updating ! $ fsplit ! $ fsplit ! $ feq_l ! (λ e.
      -- [room; what else is owned; the token]
      fjoin ! $
      use2 𝓛 (later (given (AllWt (f_int w8) x.now) (‵ Inner ⊛ ‵ (flft κ q)))) (shs_known 𝓛 (f_int w8) κ q x.ref_ptr.0 x.ref_ptr.1 x.now) $ await ! tt $ learn ! (λ a.
      split ! $ fsplit ! $ feq_i ! (List Val) vs (shr_slice_vals x) e $ fjoin ! $ fjoin ! $ now ! $ check ! (all-below x.now a) $ done !)))

module _ {M : Type 1} {𝓤 : Ura M} (𝓛 : Logic 𝓤) (𝓜 : Model 𝓤 𝓛.H) (𝓡 : Running 𝓤 𝓛.H 𝓜) (ρ : Routine)
    (n : ℕ) (os : List (Outlives (suc n))) (ps : List (Slot (suc n))) (res : Slot (suc n)) where
  -- the signatures of calls on a chunk
  open 𝓛 use {H}

  abbrev S : Signature
  S = record { lifetimes = suc n; outlives = os; params = builtin.SliceRefOf (0 ∷ []) tt (plain (λ κs. builtin.u8)) (λ κs. tt) ∷ ps; result = res }

  module _ (c : Spec 𝓤 S) (y : (triple_of 𝓛 S c).Ghost) where
    abbrev pre : SProp 𝓤
    pre = (triple_of 𝓛 S c).pre y

    abbrev chunk : Bor Bytes
    chunk = y.0.3.0

    -- what there is when a call is entered says so
    pre_known : ent 𝓤 pre (H.⇛ (guard 𝓤 (Below 256 chunk.now) pre))
    pre_known =
        let κs = y.0.0 in
        let token = flft κs.0 y.0.1.0 in
        let others = toks 𝓛 n κs.1 y.0.1.1 in
        let own = (ShrSlice (named 0) κs.0 builtin.u8).own_val chunk y.0.4.0 in
        let rest = owns (types_at ps κs) y.0.3.1 y.0.4.1 in
        let R = (c κs y.0.3).requires y.1 in
        qed 𝓛 ((((‵ token ⊛ raw others) ⊛ ‵ (fsep own rest)) ⊛ raw R) ∷ []) {P = H.⇛ (guard 𝓤 (Below 256 chunk.now) pre)} (
        updating ! $ split ! $ split ! $ split ! $ move ! (2 ∷ []) $ fsplit ! $ move ! (0 ∷ 2 ∷ []) $
        use2 𝓛 (later (given (Below 256 chunk.now) (‵ own ⊛ ‵ token))) (owned_known 𝓛 κs.0 y.0.1.0 chunk y.0.4.0) $ await ! tt $ learn ! (λ b.
        split ! $ move ! (0 ∷ 2 ∷ []) $ fjoin ! $ move ! (1 ∷ 2 ∷ []) $ join ! $ join ! $ join ! $ now ! $ check ! b $ done !))

  module _ (ks : Kepts S.params) where
    abbrev T : Ended
    T = record { signature = S; kept = ks }

    module _ (c : Clauses 𝓤 T) (E : (κs : Lfts (suc n)) (a : Args S κs) → (c κs a).ghost → Res S κs → AtExit T κs → SProp 𝓤)
        (follows : (κs : Lfts (suc n)) (a : Args S κs) (g : (c κs a).ghost) (r : Res S κs) (end : AtExit T κs) → Below 256 a.0.now → ent 𝓤 ((c κs a).ensures g r end) (E κs a g r end)) where
      -- c with E for its `ensures`
      abbrev c' : Clauses 𝓤 T
      c' κs a = record { ghost = (c κs a).ghost; requires = (c κs a).requires; ensures = E κs a }

      exits_known : (κs : Lfts (suc n)) (a : Args S κs) (g : (c κs a).ghost) (r : Res S κs) → Below 256 a.0.now → ent 𝓤 (ensured 𝓛 T c κs a g r) (ensured 𝓛 T c' κs a g r)
      exits_known κs a g r b =
          let said : Lasts T κs a → SProp 𝓤 = λ ws. sep 𝓤 (sem 𝓛 (lasts T κs a ws)) (E κs a g r (at_exit T κs a ws)) in
          ex_e 𝓤 _ (λ ws. via 𝓤 (said ws) (mono_r 𝓤 (sem 𝓛 (lasts T κs a ws)) (follows κs a g r (at_exit T κs a ws) b)) (ex_i 𝓤 said ws))

      pub bytes_known : Meets 𝓛 S (𝓡.run ρ) (closing 𝓛 T c) → Meets 𝓛 S (𝓡.run ρ) (closing 𝓛 T c')
      bytes_known meets y =
          let κs = y.0.0 in
          let a = y.0.3 in
          let before = closing 𝓛 T c in
          let args = passed 𝓛 S y.0 in
          let post = (triple_of 𝓛 S before).post y in
          let post' = (triple_of 𝓛 S (closing 𝓛 T c')).post y in
          via 𝓤 (H.⇛ (guard 𝓤 (Below 256 (chunk before y).now) (pre before y))) (pre_known before y)
          (via 𝓤 (H.⇛ (𝓡.run ρ args post'))
          (𝓛.laws.⇛_mono _ _ (guard_e 𝓤 (Below 256 (chunk before y).now) (pre before y) (λ b.
          via 𝓤 (𝓡.run ρ args post) (meets y)
          (fm→mono 𝓤 (𝓡.run ρ args) (run_framed 𝓤 H 𝓜 𝓡 ρ args) post post' (λ v.
          𝓛.laws.⇛_mono _ _ (ex_e 𝓤 _ (λ r. via 𝓤 (sep 𝓤 (Back 𝓛 S y.0 v r) (ensured 𝓛 T c' κs a y.1 r)) (mono_r 𝓤 (Back 𝓛 S y.0 v r) (exits_known κs a y.1 r b))
          (ex_i 𝓤 (λ (r' : Res S κs). sep 𝓤 (Back 𝓛 S y.0 v r') (ensured 𝓛 T c' κs a y.1 r')) r))))))))
          (run_Enters 𝓤 H 𝓜 𝓡 ρ args post'))

    -- the contract, and that the bytes are below 256
    module _ (c : Clauses 𝓤 T) where
      abbrev told : (κs : Lfts (suc n)) (a : Args S κs) → (c κs a).ghost → Res S κs → AtExit T κs → SProp 𝓤
      told κs a g r end = sep 𝓤 (fact 𝓤 (Below 256 a.0.now)) ((c κs a).ensures g r end)

      pub bytes_told : Meets 𝓛 S (𝓡.run ρ) (closing 𝓛 T c) → Meets 𝓛 S (𝓡.run ρ) (closing 𝓛 T (λ κs a. record { ghost = (c κs a).ghost; requires = (c κs a).requires; ensures = told κs a }))
      bytes_told = bytes_known c told (λ κs a g r end b. via 𝓤 (sep 𝓤 (emp 𝓤) ((c κs a).ensures g r end)) (emp∗ 𝓤 ((c κs a).ensures g r end)) (mono_l 𝓤 ((c κs a).ensures g r end) (guard_i 𝓤 (Below 256 a.0.now) (emp 𝓤) b)))
