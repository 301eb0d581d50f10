-- The stop of validation for every chunk, in numbers of findings (01, 'validator.rs': 'Reading warnings count towards 10,000 ..'). n are the diagnostics that there are already, the reading's warnings; `flatten gs` are
-- the findings of the groups gs: an empty group for a function itself, and one for each of its instructions.
--     looked_at        where fewer than the maximum are there before a group, it is looked at, and all before it
--     no_stop          at most the maximum after the last group, fewer before it: every finding is listed, and there is no stop
--     one_too_many     more than the maximum after the last group: every finding is listed, and that is a stop
--     behind           the maximum or more, and anything behind: a stop, with what was found up to there
-- Assumes nothing.
use mathlib.Core.Path.{◌≡◌, ap, sym, ◌∙◌}
use mathlib.Core.Bool.{true, false}
use mathlib.Core.List.{List, [], ◌∷◌, ◌++◌, flatten, append_assoc, append-nil}
use Prim.Native.Nat.{ℕ, ◌+◌, ◌<◌, ◌≤◌}
use native.Mathlib.Omega.{arith}
use lib.ListN.{length, length-append}
use lib.Dec.{leb}
use borrow.Author.Tests.{lt-ltb, le-ltb, le-leb, lt-leb}
use Rattle.validate_rules.specs.declared.finding.Finding.{Finding}
use Rattle.validate_rules.specs.Findings.{Listing, prepend, limited}

abbrev pub Groups : Type 0
Groups = List (List Finding)

abbrev pub stop : List Finding → Listing
stop l = record { findings = l; stopped = true }

abbrev pub all_found : List Finding → Listing
all_found l = record { findings = l; stopped = false }

prepend_twice : (a b : List Finding) (l : Listing) → prepend a (prepend b l) ≡ prepend (a ++ b) l
prepend_twice a b l = rw append_assoc

module _ (max : ℕ) where
  pub looked_at : (gs : Groups) (g : List Finding) (rest : Groups) (n : ℕ) → n + length (flatten gs) < max
      → limited max n (gs ++ (g ∷ rest)) ≡ prepend (flatten gs ++ g) (limited max (n + length (flatten gs) + length g) rest)
  unfolding limited flatten
  looked_at [] g rest n fewer =
      let first : leb max n ≡ false = lt-leb max n (omega arith) in
      let same : n + length g ≡ n + length {A = Finding} [] + length g = omega arith in
      rw (first, same)
  looked_at (h ∷ gs) g rest n fewer =
      let first : leb max n ≡ false = lt-leb max n (omega (arith, length-append h (flatten gs))) in
      let same : n + length h + length (flatten gs) + length g ≡ n + length (h ++ flatten gs) + length g = omega (arith, length-append h (flatten gs)) in
      let more : Listing = limited max (n + length h + length (flatten gs) + length g) rest in
      rw (first, ← same)
      (ap (prepend h) (looked_at gs g rest (n + length h) (omega (arith, length-append h (flatten gs)))) ∙ prepend_twice h (flatten gs ++ g) more ∙ ap (λ l. prepend l more) (sym (append_assoc h (flatten gs) g)))

  module _ (gs : Groups) (g : List Finding) (n : ℕ) (fewer : n + length (flatten gs) < max) where
    pub no_stop : n + length (flatten gs) + length g ≤ max → limited max n (gs ++ (g ∷ [])) ≡ all_found (flatten gs ++ g)
    unfolding limited
    no_stop at_most = rw (looked_at gs g [] n fewer, le-ltb max (n + length (flatten gs) + length g) at_most, append-nil)

    pub one_too_many : max < n + length (flatten gs) + length g → limited max n (gs ++ (g ∷ [])) ≡ stop (flatten gs ++ g)
    unfolding limited
    one_too_many more = rw (looked_at gs g [] n fewer, lt-ltb max (n + length (flatten gs) + length g) more, append-nil)

    pub behind : (h : List Finding) (rest : Groups) → max ≤ n + length (flatten gs) + length g → limited max n (gs ++ (g ∷ h ∷ rest)) ≡ stop (flatten gs ++ g)
    unfolding limited
    behind h rest full = rw (looked_at gs g (h ∷ rest) n fewer, le-leb max (n + length (flatten gs) + length g) full, append-nil)
