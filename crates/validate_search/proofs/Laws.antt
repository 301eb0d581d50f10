-- Laws of the groups of a function's instructions, and of findings up to a number.
-- Assumes nothing.
use Rattle.std.specs.Prelude.{Option, Result, Ok, Err}
use Rattle.std.specs.Result.{is_ok}
use Rattle.format.specs.declared.refusal.Refusal.{Refusal}
use Rattle.slice.specs.declared.cursor.Cursor.{Cursor}
use mathlib.Core.Path.{◌≡◌, refl, ap, sym, ◌∙◌}
use mathlib.Core.Bool.{Bool, true, false, ◌||◌}
use mathlib.Core.List.{List, [], ◌∷◌, ◌++◌}
use Prim.Native.Nat.{ℕ, zero, suc, ◌+◌, ◌-◌, ◌*◌, ◌<◌, ◌≤◌}
use native.Mathlib.Omega.{arith}
use lib.ListN.{length, take, drop, length-drop}
use lib.Dec.{ltb, leb}
use borrow.Author.Tests.{lt-leb, le-leb, le-ltb, ltb-true, ltb-false, leb-true, leb-false}
use Rattle.format.specs.Form.{Bytes}
use Rattle.format.specs.GrammarFields.{little}
use Rattle.format.specs.ReadFields.{field}
use Rattle.format.proofs.Steps.{field-short, field_enough}
use Rattle.read_field.specs.Shown.{shown}
use Rattle.read_next.specs.declared.Row.{Row}
use Rattle.read_next.specs.Inner.Rows.{any_row}
use Rattle.validate_rules.specs.Rules.{instruction}
use Rattle.validate_rules.specs.Inner.Judged.{as_list}
use Rattle.validate_rules.specs.Findings.{code_groups, ended, prepend, limited}
use Rattle.validate_search.specs.Inner.Position.{on_word, words_at, code_left, code_at, skip, row_bounds, next_number, row_groups, any_left}
use Rattle.validate_rules.specs.declared.finding.Finding.{Finding}
use Rattle.validate_rules.specs.declared.finding.Bounds.{Bounds}
use Rattle.validate_search.specs.declared.scan.Code.{Code}

empty : (gs : List (List Finding)) → length gs ≡ 0 → gs ≡ []
empty [] e = refl
empty (g ∷ gs) e = absurd (omega arith)

module _ (s : Bytes) (b : Bounds) (k : ℕ) where
  -- behind the last instruction
  pub code-end : (place pc : ℕ) → b.instructions ≤ pc → code_left s (code_at b k place pc) ≡ []
  unfolding code_left code_groups words_at
  code-end place pc h = let z : b.instructions - pc ≡ 0 = omega arith in rw z

  words_more : (o : Result (ℕ × Cursor) Refusal) (n pc : ℕ)
      → code_groups k b (on_word o [] (λ word to. word ∷ words_at s n to)) pc ≡ on_word o [] (λ word to. instruction k b pc word ∷ code_groups k b (words_at s n to) (pc + 1))
  unfolding code_groups
  words_more (Ok (word, next)) n pc = refl
  words_more (Err q) n pc = refl

  -- one instruction, if its bytes are there
  pub code-more : (place pc : ℕ) → pc < b.instructions
      → code_left s (code_at b k place pc) ≡ on_word (shown (field 4 place (drop place s))) [] (λ word to. instruction k b pc word ∷ code_left s (code_at b k to (pc + 1)))
  unfolding code_left code_groups words_at
  code-more place pc h = let z : b.instructions - pc ≡ suc (b.instructions - (pc + 1)) = omega arith in rw z (words_more (shown (field 4 place (drop place s))) (b.instructions - (pc + 1)) pc)

  any-word : (o : Result (ℕ × Cursor) Refusal) (g : ℕ → ℕ → List Finding) (more : ℕ → ℕ → List (List Finding)) (gs : List (List Finding))
      → any_left (on_word o [] (λ word to. g word to ∷ more word to) ++ gs) ≡ is_ok o || any_left gs
  any-word (Ok (word, next)) g more gs = refl
  any-word (Err q) g more gs = refl

  -- a group is left where the next instruction's bytes are there
  pub any-code : (place pc : ℕ) (gs : List (List Finding)) → pc < b.instructions
      → any_left (code_left s (code_at b k place pc) ++ gs) ≡ is_ok (shown (field 4 place (drop place s))) || any_left gs
  any-code place pc gs h = rw (code-more place pc h) (any-word (shown (field 4 place (drop place s))) _ _ gs)

  groups-many : (ws : List ℕ) (pc : ℕ) → length (code_groups k b ws pc) ≡ length ws
  unfolding code_groups
  groups-many [] pc = refl
  groups-many (w ∷ ws) pc = ap suc (groups-many ws (pc + 1))

  -- the next instruction, where there is one
  pub code-next : (place pc : ℕ) → 0 < length (code_left s (code_at b k place pc))
      → (place + 4 ≤ length s) × (code_left s (code_at b k place pc) ≡ instruction k b pc (little (take 4 (drop place s))) ∷ code_left s (code_at b k (place + 4) (pc + 1)))
  code-next place pc some = go (ltb pc b.instructions) refl (leb 4 (length (drop place s))) refl
    where
      go : (t : Bool) → ltb pc b.instructions ≡ t → (u : Bool) → leb 4 (length (drop place s)) ≡ u
          → (place + 4 ≤ length s) × (code_left s (code_at b k place pc) ≡ instruction k b pc (little (take 4 (drop place s))) ∷ code_left s (code_at b k (place + 4) (pc + 1)))
      go true e true f =
          let enough = leb-true 4 (length (drop place s)) f in
          (omega (arith, length-drop place s), code-more place pc (ltb-true pc b.instructions e) ∙ rw (field_enough 4 place (drop place s) enough))
      go true e false f =
          let none : code_left s (code_at b k place pc) ≡ [] = code-more place pc (ltb-true pc b.instructions e) ∙ rw (field-short 4 place (drop place s) (leb-false 4 (length (drop place s)) f)) in
          absurd (omega (arith, some, ap length none))
      go false e u f = absurd (omega (arith, some, ap length (code-end place pc (ltb-false pc b.instructions e))))

-- At the instruction pc of code c: what c has left is what is left here, but for empty groups, up to the instruction `end`.
module _ (s : Bytes) (c : Code) (end : ℕ) where
  abbrev here : ℕ → ℕ → List (List Finding)
  here place pc = code_left s (code_at c.bounds c.function place pc)

  abbrev pub Stands : ℕ → ℕ → Type 0
  Stands place pc = (skip (code_left s c) ≡ skip (here place pc)) × (end ≡ pc + length (here place pc))

  module _ (place pc : ℕ) (stands : Stands place pc) where
    -- behind the last one
    pub ends : end ≤ pc → skip (code_left s c) ≡ []
    unfolding skip
    ends none = stands.0 ∙ ap skip (empty (here place pc) (omega (arith, stands.1)))

    module _ (more : pc < end) where
      one : (place + 4 ≤ length s) × (here place pc ≡ instruction c.function c.bounds pc (little (take 4 (drop place s))) ∷ here (place + 4) (pc + 1))
      one = code-next s c.bounds c.function place pc (omega (arith, stands.1))

      pub word_there : place + 4 ≤ length s
      word_there = one.0

      module _ (word : ℕ) (is : word ≡ little (take 4 (drop place s))) where
        -- an instruction that is fine
        pub passes : instruction c.function c.bounds pc word ≡ [] → Stands (place + 4) (pc + 1)
        unfolding skip
        passes fine = (stands.0 ∙ rw (one.1, ← is, fine), omega (arith, stands.1, ap length one.1))

        -- and one that is not
        pub finds : (f : Finding) (g : List Finding) → instruction c.function c.bounds pc word ≡ f ∷ g → skip (code_left s c) ≡ (f ∷ g) ∷ here (place + 4) (pc + 1)
        unfolding skip
        finds f g found = stands.0 ∙ rw (one.1, ← is, found)

-- of n words m are there, and not one more
words_there : (s : Bytes) (m n at : ℕ) → m ≤ n → m * 4 ≤ length (drop at s) → (m < n → length (drop at s) < m * 4 + 4) → length (words_at s n at) ≡ m
unfolding words_at
words_there s zero zero at most all last = refl
words_there s zero (suc n) at most all last = rw (field-short 4 at (drop at s) (last (omega arith)))
words_there s (suc m) zero at most all last = absurd (omega arith)
words_there s (suc m) (suc n) at most all last =
    rw (field_enough 4 at (drop at s) (omega arith))
    (ap suc (words_there s m n (at + 4) (omega arith) (omega (arith, length-drop at s, length-drop (at + 4) s)) (λ h. omega (arith, last (omega arith), length-drop at s, length-drop (at + 4) s))))

pub code-there : (s : Bytes) (c : Code) (m : ℕ) → m ≤ c.bounds.instructions - c.pc → m * 4 ≤ length (drop c.place.at s)
    → (m < c.bounds.instructions - c.pc → length (drop c.place.at s) < m * 4 + 4) → length (code_left s c) ≡ m
unfolding code_left
code-there s c m most all last = groups-many s c.bounds c.function (words_at s (c.bounds.instructions - c.pc) c.place.at) c.pc ∙ words_there s m (c.bounds.instructions - c.pc) c.place.at most all last

-- a group is left where a function is
pub any-groups : (s : Bytes) (k : ℕ) (rows : List Row) → any_left (row_groups s k rows) ≡ any_row rows
unfolding row_groups
any-groups s k [] = refl
any-groups s k (row ∷ rows) = refl

module _ (max n : ℕ) where
  pub limited_full : (gs : List (List Finding)) → max ≤ n → limited max n gs ≡ ended (any_left gs || ltb max n)
  unfolding limited
  limited_full [] h = refl
  limited_full (g ∷ gs) h = rw (le-leb max n h)

  module _ (room : n < max) where
    pub limited_empty : (gs : List (List Finding)) → limited max n ([] ∷ gs) ≡ limited max n gs
    unfolding limited
    limited_empty gs = let z : n + 0 ≡ n = omega arith in rw (lt-leb max n room, z)

    limited-skip : (xs gs : List (List Finding)) → limited max n (skip xs ++ gs) ≡ limited max n (xs ++ gs)
    unfolding skip
    limited-skip [] gs = refl
    limited-skip ([] ∷ xs) gs = limited-skip xs gs ∙ sym (limited_empty (xs ++ gs))
    limited-skip ((f ∷ g) ∷ xs) gs = refl

    -- an instruction that is not fine
    pub limited-found : (xs gs ys : List (List Finding)) (f : Finding) (w : Option Finding) → skip xs ≡ (f ∷ as_list w) ∷ ys
        → limited max n (xs ++ gs) ≡ prepend (f ∷ []) (prepend (as_list w) (limited max (n + (1 + length (as_list w))) (ys ++ gs)))
    unfolding limited
    limited-found xs gs ys f w e =
        let z : n + suc (length (as_list w)) ≡ n + (1 + length (as_list w)) = omega arith in
        sym (limited-skip xs gs) ∙ rw (e, lt-leb max n room, z)

    -- no more instructions that are not fine
    pub limited_fine : (xs gs : List (List Finding)) → skip xs ≡ [] → limited max n (xs ++ gs) ≡ limited max n gs
    limited_fine xs gs e = sym (limited-skip xs gs) ∙ rw e

    -- no more functions
    pub limited-none : limited max n [] ≡ ended false
    unfolding limited
    limited-none = rw (le-ltb max n (omega arith))

    -- the next function
    pub limited_enter : (s : Bytes) (k : ℕ) (row : Row) (rows : List Row)
        → limited max n (row_groups s k (row ∷ rows)) ≡ limited max n (code_left s (code_at (row_bounds row) k row.instructions_at 0) ++ row_groups s (next_number k) rows)
    unfolding row_groups code_left
    limited_enter s k row rows = let z : row.instructions - 0 ≡ row.instructions = omega arith in rw z (limited_empty _)
