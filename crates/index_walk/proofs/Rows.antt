-- What the walk has written: at each return of `write_function`, and at each turn of its loop.
--     refuses          a walk that refuses may have written anything
--     function-wrote   a function's row: its front before the rows of those that nest in it, the rest behind them
--     Behind           in the loop: the rows of the functions passed stand there, and those left are read from here on
--     as_many          where what is left is the same number in another form
-- Assumes nothing.
use Rattle.std.specs.Prelude.{Ok, Err}
use mathlib.Core.Path.{◌≡◌, refl, sym, subst, ◌∙◌, ap}
use mathlib.Core.List.{List, [], ◌∷◌, ◌++◌, append_assoc}
use Prim.Native.Nat.{ℕ, ◌+◌, ◌*◌, ◌-◌, ◌<◌, ◌≤◌}
use native.Mathlib.Omega.{arith}
use lib.ListN.{length, take, drop, length-append}
use lib.Seq.{length-take-le, take-append_seam, drop-append-add}
use Rattle.format.specs.declared.limits.ResourceLimits.{ResourceLimits}
use Rattle.format.specs.declared.refusal.Refusal.{Refusal}
use Rattle.format.specs.Form.{Bytes}
use Rattle.format.specs.Reading.{Prototype}
use Rattle.format.specs.GrammarChunk.{Where}
use Rattle.format.specs.Read.{Read}
use Rattle.format.specs.ReadChunk.{forest, function}
use Rattle.format.proofs.Exact.{never}
use Rattle.slice.specs.declared.cursor.Cursor.{Cursor}
use Rattle.read_prototype.specs.declared.pass.HeadCounts.{HeadCounts}
use Rattle.read_prototype.specs.declared.pass.TailCounts.{TailCounts}
use Rattle.read_prototype.specs.Inner.Counts.{head_counts, tail_counts, head_counts_result, tail_counts_result}
use Rattle.read_prototype.specs.Inner.Whole.{prototype_of}
use Rattle.read_walk.specs.declared.walk.Skimmed.{Skimmed}
use Rattle.read_walk.specs.Inner.Skim.{entered, on, skim_result}
use Rattle.read_walk.proofs.OneFunction.{skim_err}
use Rattle.read_walk.proofs.Passes.{begins, its_head, head-counts, first, inner, nested, ends, its_tail, tail-counted, function-read}
use Rattle.read_walk.proofs.SoFar.{SoFar, starts, ended, goes_on_lem, next-read}
use Rattle.slice.specs.Inner.Splice.{splice}
use Rattle.slice.proofs.Splices.{splice-length, splice-none, splice_then, splice-before}
use Rattle.index_row.specs.Inner.Stored.{COLUMNS, low, stored_head, stored_places, stored_tail, stored_function, stored}
use Rattle.index_walk.specs.Inner.Written.{Wrote}

-- ## Rows
pub stored-length : (ps : List Prototype) → length (stored ps) ≡ COLUMNS * length ps
stored-length [] = refl
stored-length (p ∷ ps) = let more = stored-length ps in omega arith

stored-append : (ps qs : List Prototype) → stored (ps ++ qs) ≡ stored ps ++ stored qs
stored-append [] qs = refl
stored-append (p ∷ ps) qs = ap (λ more. stored_function p ++ more) (stored-append ps qs)

-- what stands behind k elements P, with e written over the first of it
over_first : (P D : List ℕ) (b e k : ℕ) → length P ≡ k → take k (P ++ (b ∷ D)) ++ (e ∷ drop (k + 1) (P ++ (b ∷ D))) ≡ P ++ (e ∷ D)
over_first P D b e k h = rw (← h, take-append_seam, drop-append-add)

-- a piece of which the second number is written over
over_second : (k a b e : ℕ) (xs l : List ℕ) → k ≤ length l → splice (k + 1) (e ∷ []) (splice k (a ∷ b ∷ xs) l) ≡ splice k (a ∷ e ∷ xs) l
unfolding splice
over_second k a b e xs l h =
    ap (λ (x : List ℕ). take (k + 1) x ++ (e ∷ drop (k + 1 + 1) x)) (sym (append_assoc (take k l) (a ∷ []) (b ∷ (xs ++ drop (k + length (a ∷ b ∷ xs)) l))))
    ∙ over_first (take k l ++ (a ∷ [])) (xs ++ drop (k + length (a ∷ b ∷ xs)) l) b e (k + 1) (length-append (take k l) (a ∷ []) ∙ ap (λ (n : ℕ). n + 1) (length-take-le k l h))
    ∙ append_assoc (take k l) (a ∷ []) (e ∷ (xs ++ drop (k + length (a ∷ b ∷ xs)) l))

-- the front of a row, its two places, what stands behind the row, the four numbers before the places, and the row's second: one piece
row_around : (at a b e : ℕ) (xs t places more l₀ l₁ : List ℕ) → l₁ ≡ splice (at + 12) places (splice at (a ∷ b ∷ xs) l₀) → length xs ≡ 6 → length t ≡ 4 → length places ≡ 2 → at + COLUMNS ≤ length l₀
    → splice (at + 1) (e ∷ []) (splice (at + 8) t (splice (at + COLUMNS) more l₁)) ≡ splice at (a ∷ e ∷ (xs ++ (t ++ (places ++ more)))) l₀
row_around at a b e xs t places more l₀ l₁ begun six four two fits =
    let front = splice at (a ∷ b ∷ xs) l₀ in
    let long : length front ≡ length l₀ = splice-length at (a ∷ b ∷ xs) l₀ (omega arith) in
    let eight : at + 8 ≡ at + length (a ∷ b ∷ xs) = omega arith in
    let twelve : at + 12 ≡ at + 8 + length t = omega arith in
    let behind : at + COLUMNS ≡ at + 12 + length places = omega arith in
    (λ i. splice (at + 1) (e ∷ []) (splice (at + 8) t (splice (behind i) more (begun i))))
    ∙ ap (λ l. splice (at + 1) (e ∷ []) (splice (at + 8) t l)) (splice_then (at + 12) places more front (omega arith))
    ∙ ap (λ k. splice (at + 1) (e ∷ []) (splice (at + 8) t (splice k (places ++ more) front))) twelve
    ∙ ap (splice (at + 1) (e ∷ [])) (splice-before (at + 8) t (places ++ more) front (omega arith))
    ∙ ap (λ k. splice (at + 1) (e ∷ []) (splice k (t ++ (places ++ more)) front)) eight
    ∙ ap (splice (at + 1) (e ∷ [])) (splice_then at (a ∷ b ∷ xs) (t ++ (places ++ more)) l₀ (omega arith))
    ∙ over_second at a b e (xs ++ (t ++ (places ++ more))) l₀ (omega arith)

none-wrote : (w : Where) (o : Read (List Prototype)) (l l' : List ℕ) (q : Refusal) → Err q ≡ skim_result w o → Wrote w o l l'
none-wrote w o l l' q e = record { wrote = λ ps to rest f _. absurd (never (sym (skim_err w o q e) ∙ f)) }

-- what a return with a refusal shows, and what is then asked of the rows
pub refuses : (from : Skimmed) (depth parent : ℕ) (o : Where → Read (List Prototype)) (l l' : List ℕ) (q : Refusal) → ((w : Where) → from.number ≡ w.number → from.instructions ≡ w.instructions → Err q ≡ skim_result w (o w))
    → ((w : Where) → from.number ≡ w.number → from.instructions ≡ w.instructions → Err q ≡ skim_result w (o w))
    × ((w : Where) → from.number ≡ w.number → from.instructions ≡ w.instructions → depth ≡ w.depth → parent ≡ w.parent → Wrote w (o w) l l')
refuses from depth parent o l l' q shows = (shows, λ w n i _ _. none-wrote w (o w) l l' q (shows w n i))

-- ## A function
module _ (s : Bytes) (L : ResourceLimits) (left : ℕ) (w : Where) (at : ℕ) {before : ℕ} (so_far : before ≡ w.instructions)
    (h : HeadCounts) (c₁ : Cursor) (e₁ : Ok (h, c₁) ≡ head_counts_result (begins s L left w at so_far))
    (k : Skimmed) (e₂ : Ok k ≡ skim_result (first s L left w at so_far h c₁ e₁) (inner s L left w at so_far h c₁ e₁))
    (t : TailCounts) (c₃ : Cursor) (e₃ : Ok (t, c₃) ≡ tail_counts_result (ends s L left w at so_far h c₁ e₁ k e₂)) where
  abbrev those : List Prototype
  those = (nested s L left w at so_far h c₁ e₁ k e₂).value

  abbrev this : Prototype
  this = prototype_of w at (its_head s L left w at so_far h c₁ e₁) (its_tail s L left w at so_far h c₁ e₁ k e₂ t c₃ e₃) c₃.at

  -- its numbers as they are stored before and behind those of the nested functions
  abbrev before_those : List ℕ
  before_those = stored_head at at w.depth w.parent (head_counts (its_head s L left w at so_far h c₁ e₁))

  abbrev its_places : List ℕ
  its_places = stored_places (head_counts (its_head s L left w at so_far h c₁ e₁))

  abbrev behind_those : List ℕ
  behind_those = stored_tail (tail_counts (its_tail s L left w at so_far h c₁ e₁ k e₂ t c₃ e₃))

  pub function-wrote : (number depth parent : ℕ) → number ≡ w.number → depth ≡ w.depth → parent ≡ w.parent
      → (l₀ l₁ l₂ l₃ : List ℕ) → (COLUMNS * number + COLUMNS ≤ length l₀ → l₁ ≡ splice (COLUMNS * number + 12) (stored_places h) (splice (COLUMNS * number) (stored_head at at depth parent h) l₀)) → length l₁ ≡ length l₀
      → Wrote (first s L left w at so_far h c₁ e₁) (inner s L left w at so_far h c₁ e₁) l₁ l₂ → length l₂ ≡ length l₁
      → (COLUMNS * number + COLUMNS ≤ length l₂ → l₃ ≡ splice (COLUMNS * number + 1) (low c₃.at ∷ []) (splice (COLUMNS * number + 8) (stored_tail t) l₂))
      → Wrote w (function L left w at (drop at s)) l₀ l₃
  function-wrote number depth parent n d p l₀ l₁ l₂ l₃ begun same-long inside long put = record { wrote = λ ps to rest e fits. written ps (let both = sym (function-read s L left w at so_far h c₁ e₁ k e₂ t c₃ e₃) ∙ e in cc) fits }
    where
      written : (ps : List Prototype) → this ∷ those ≡ ps → COLUMNS * (w.number + length ps) ≤ length l₀ → l₃ ≡ splice (COLUMNS * w.number) (stored ps) l₀
      written ps same fits =
          let size : length ps ≡ 1 + length those = sym (ap length same) ∙ omega arith in
          let behind : COLUMNS * (w.number + 1) ≡ COLUMNS * w.number + COLUMNS = omega arith in
          let below = inside.wrote those _ _ (nested s L left w at so_far h c₁ e₁ k e₂).is (omega arith) in
          put (omega arith)
          ∙ (λ i. splice (COLUMNS * n i + 1) (low c₃.at ∷ []) (splice (COLUMNS * n i + 8) (stored_tail (tail-counted s L left w at so_far h c₁ e₁ k e₂ t c₃ e₃ i)) (below i)))
          ∙ ap (λ m. splice (COLUMNS * w.number + 1) (low c₃.at ∷ []) (splice (COLUMNS * w.number + 8) behind_those (splice m (stored those) l₁))) behind
          ∙ row_around (COLUMNS * w.number) (low at) (low at) (low c₃.at) (drop 2 before_those) behind_those its_places (stored those) l₀ l₁
          (begun (omega arith) ∙ (λ i. let h = head-counts s L left w at so_far h c₁ e₁ i in splice (COLUMNS * n i + 12) (stored_places h) (splice (COLUMNS * n i) (stored_head at at (d i) (p i) h) l₀))) refl refl refl (omega arith)
          ∙ ap (λ ps. splice (COLUMNS * w.number) (stored ps) l₀) same

-- ## The loop
-- of n functions from w on: those passed, and their rows, where they have room
pub record Part (s : Bytes) (L : ResourceLimits) (n left depth parent at : ℕ) (w : Where) (l₀ : List ℕ) (k : Skimmed) (more : ℕ) (l : List ℕ) : Type 0 where
  pub passed : List Prototype
  pub so_far : SoFar (entered L left) s w n at k more passed
  pub wrote : depth ≡ w.depth → parent ≡ w.parent → COLUMNS * k.number ≤ length l₀ → l ≡ splice (COLUMNS * w.number) (stored passed) l₀

abbrev pub Behind : Bytes → ResourceLimits → ℕ → ℕ → ℕ → ℕ → Skimmed → List ℕ → Skimmed → ℕ → List ℕ → Type 0
Behind s L n left depth parent from l₀ k more l = (w : Where) → from.number ≡ w.number → from.instructions ≡ w.instructions → Part s L n left depth parent from.next.at w l₀ k more l

pub starts-behind : (s : Bytes) (L : ResourceLimits) (n left depth parent : ℕ) (from : Skimmed) (l : List ℕ) → Behind s L n left depth parent from l from n l
starts-behind s L n left depth parent from l w e i = record { passed = []; so_far = starts (entered L left) s w n from e i; wrote = λ _ _ _. sym (splice-none (COLUMNS * w.number) l) }

-- a number of functions left in another form
pub as_many : {s : Bytes} {L : ResourceLimits} {n left depth parent : ℕ} {from : Skimmed} {l₀ : List ℕ} {k : Skimmed}
    {more same : ℕ} {l : List ℕ} → more ≡ same
    → Behind s L n left depth parent from l₀ k more l → Behind s L n left depth parent from l₀ k same l
as_many {s} {L} {n} {left} {depth} {parent} {from} {l₀} {k} {l = l} e b =
    subst (λ more. Behind s L n left depth parent from l₀ k more l) e b

module _ (s : Bytes) (L : ResourceLimits) (n left depth parent : ℕ) (from : Skimmed) (l₀ : List ℕ) (k : Skimmed) (more : ℕ) (l : List ℕ) (b : Behind s L n left depth parent from l₀ k more l) where
  abbrev all : Where → Read (List Prototype)
  all w = forest n (entered L left) w from.next.at (drop from.next.at s)

  pub ends_behind : more ≤ 0 → (w : Where) → from.number ≡ w.number → from.instructions ≡ w.instructions → depth ≡ w.depth → parent ≡ w.parent → Wrote w (all w) l₀ l
  ends_behind none w e i d p = record { wrote = λ ps to rest is fits. last ps (let both = sym (ended a.so_far none) ∙ is in cc) fits }
    where
      a : Part s L n left depth parent from.next.at w l₀ k more l
      a = b w e i

      last : (ps : List Prototype) → a.passed ≡ ps → COLUMNS * (w.number + length ps) ≤ length l₀ → l ≡ splice (COLUMNS * w.number) (stored ps) l₀
      last ps same fits =
          let number = a.so_far.number in
          let size = ap length same in
          a.wrote d p (omega arith) ∙ ap (λ ps. splice (COLUMNS * w.number) (stored ps) l₀) same

  module _ (long : length l ≡ length l₀) (some : 0 < more) (level : 0 < left) (few : k.number ≤ L.max_total_prototypes) (l' : List ℕ) (later : Skimmed)
      (one : (w : Where) → k.number ≡ w.number → k.instructions ≡ w.instructions → Ok later ≡ skim_result w (function L (left - 1) w k.next.at (drop k.next.at s)))
      (its : (w : Where) → k.number ≡ w.number → k.instructions ≡ w.instructions → depth ≡ w.depth → parent ≡ w.parent → Wrote w (function L (left - 1) w k.next.at (drop k.next.at s)) l l') where
    pub on-behind : Behind s L n left depth parent from l₀ later (more - 1) l'
    on-behind w e i = record { passed = a.passed ++ qs; so_far = goes_on_lem L left a.so_far some level few later (one (on w k) refl refl); wrote = written }
      where
        a : Part s L n left depth parent from.next.at w l₀ k more l
        a = b w e i

        qs : List Prototype
        qs = (next-read L left a.so_far some level few later (one (on w k) refl refl)).value

        written : depth ≡ w.depth → parent ≡ w.parent → COLUMNS * later.number ≤ length l₀ → l' ≡ splice (COLUMNS * w.number) (stored (a.passed ++ qs)) l₀
        written d p fits =
            let read = next-read L left a.so_far some level few later (one (on w k) refl refl) in
            let number : k.number ≡ w.number + length a.passed = a.so_far.number in
            let further : later.number ≡ k.number + length qs = ap (λ k. k.number) read.shows in
            let size : length (stored a.passed) ≡ COLUMNS * length a.passed = stored-length a.passed in
            let from-here : COLUMNS * k.number ≡ COLUMNS * w.number + length (stored a.passed) = omega arith in
            (its (on w k) refl refl d p).wrote qs _ _ read.is (omega arith)
            ∙ (λ j. splice (from-here j) (stored qs) (a.wrote d p (omega arith) j))
            ∙ splice_then (COLUMNS * w.number) (stored a.passed) (stored qs) l₀ (omega arith)
            ∙ ap (λ x. splice (COLUMNS * w.number) x l₀) (sym (stored-append a.passed qs))
