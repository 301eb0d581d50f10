-- What calls show can be read back: equal answers come of equal entries.
--     by_entries, shown_list       lists are related, or equal, entry by entry
--     option_same, value_same      a string and a constant, from what is shown of it and the bytes that stand where it is shown
--     locals_same                  a local variable, from its answer and the name in lent space
--     warnings-same                warnings, of which a reading has at most two (`few_warnings`)
-- Assumes nothing.
use Rattle.show_local.specs.declared.LocalShown.{LocalShown}
use Rattle.std.specs.Prelude as prelude
use Rattle.std.specs.Prelude.{Some, None, Ok}
use Rattle.read_field.specs.declared.string.StringAt.{StringAt}
use mathlib.Core.Path.{◌≡◌, refl, sym, ◌∙◌, ap, ap₂}
use mathlib.Core.Bool.{Bool, true, false, cond}
use mathlib.Core.List.{List, [], ◌∷◌, ◌++◌}
use mathlib.Core.Option.{Option, none, some}
use Prim.Native.Nat.{ℕ, zero, suc, ◌≤◌}
use native.Mathlib.Omega.{arith}
use lib.Dec.{eqb, leb}
use borrow.Author.Tests.{le-leb}
use lib.ListN.{length, take, drop, length-append, get_elem?}
use lib.Seq.{take-append_seam}
use mir.Syntax.{w64}
use mir.Val.{of_z}
use mir.Facts.{of_z-to_z}
use Rattle.format.specs.declared.limits.ResourceLimits.{ResourceLimits}
use Rattle.format.specs.declared.refusal.Refusal.{Refusal}
use Rattle.format.specs.declared.refusal.Refusal.TheVariants.{NoEntry}
use Rattle.format.specs.declared.header.Warning.{Warning}
use Rattle.format.specs.Form.{Bytes}
use Rattle.format.specs.GrammarFields.{LuaString}
use Rattle.format.specs.declared.header.Warning.TheVariants.{NonStandardFormat}
use Rattle.format.specs.GrammarHeader.{Header}
use Rattle.format.specs.GrammarChunk.{Main, trailing_warnings, Chunk}
use Rattle.format.specs.Reading as reading
use Rattle.format.specs.Reading.{Reading, LocalVar}
use Rattle.format.proofs.Every.{Every, any, every_then, every_is}
use Rattle.format.proofs.Located.{StandsIf}
use Rattle.read_field.specs.Shown.{option_string}
use Rattle.read_entry.specs.declared.constant.ConstantValue.{ConstantValue}
use Rattle.read_entry.specs.declared.constant.ConstantValue.TheVariants as constant
use Rattle.read_entry.specs.Shown.{constant_value}
use Rattle.read_header.specs.Shown.{first_warning}
use Rattle.read_chunk.specs.Decoded.{shown_warnings}
use Rattle.read_chunk.specs.Inner.Decoded.{list_of}
use Rattle.read_nth.proofs.Strings.{ConstantStands}
use Rattle.show_row.specs.Asked.{Asked, found, refused, or_refuse}
use Rattle.show_local.specs.Locals.{shown_local, name_written}
use Rattle.demands.proofs.Same.{Pairwise, SameLocal}
use Rattle.demands.proofs.Fits.{IntegerFits}
use Rattle.demands.proofs.Alike.{option_shown, value_shown}

-- ## Lists by their entries
abbrev pub Related : {A : Type 0} → (A → A → Type 0) → Option A → Option A → Type 0
Related R none none = Unit {0}
Related R none (some y) = ⊥
Related R (some x) none = ⊥
Related R (some x) (some y) = R x y

pub by_entries : {A : Type 0} (R : A → A → Type 0) (xs ys : List A) → ((i : ℕ) → Related R (get_elem? xs i) (get_elem? ys i)) → Pairwise R xs ys
by_entries R [] [] h = tt
by_entries R [] (y ∷ ys) h = h 0
by_entries R (x ∷ xs) [] h = h 0
by_entries R (x ∷ xs) (y ∷ ys) h = (h 0, by_entries R xs ys (λ i. h (suc i)))

pub entries_of : {A : Type 0} (R : A → A → Type 0) (xs ys : List A) → Pairwise R xs ys → (i : ℕ) → Related R (get_elem? xs i) (get_elem? ys i)
entries_of R [] [] h i = tt
entries_of R [] (y ∷ ys) h i = absurd h
entries_of R (x ∷ xs) [] h i = absurd h
entries_of R (x ∷ xs) (y ∷ ys) h zero = h.0
entries_of R (x ∷ xs) (y ∷ ys) h (suc i) = entries_of R xs ys h.1 i

all_equal : {A : Type 0} (xs ys : List A) → Pairwise (λ x y. x ≡ y) xs ys → xs ≡ ys
all_equal [] [] h = refl
all_equal [] (y ∷ ys) h = absurd h
all_equal (x ∷ xs) [] h = absurd h
all_equal (x ∷ xs) (y ∷ ys) h = ap₂ ◌∷◌ h.0 (all_equal xs ys h.1)

-- equal answers to a request for an entry (or a function) come of entries that are related, or of none
module _ {A B : Type 0} (show : Asked A → B) (apart : (x : A) (q : Refusal) → show (found x) ≡ show (refused q) → ⊥) (R : A → A → Type 0) where
  pub related : (q : Refusal) (a b : Option A) → ((x y : A) → a ≡ some x → b ≡ some y → show (found x) ≡ show (found y) → R x y) → show (or_refuse q a) ≡ show (or_refuse q b) → Related R a b
  related q none none one e = tt
  related q none (some y) one e = absurd (apart y q (sym e))
  related q (some x) none one e = absurd (apart x q e)
  related q (some x) (some y) one e = one x y refl refl e

-- a list of which every entry is shown so that it can be read back is equal to another, shown the same
module _ {A B : Type 0} (show : Asked A → B) (apart : (x : A) (q : Refusal) → show (found x) ≡ show (refused q) → ⊥) where
  pub shown_list : (xs ys : List A) → ((i : ℕ) (x y : A) → get_elem? xs i ≡ some x → get_elem? ys i ≡ some y → show (found x) ≡ show (found y) → x ≡ y)
      → ((i : ℕ) → show (or_refuse NoEntry (get_elem? xs i)) ≡ show (or_refuse NoEntry (get_elem? ys i))) → xs ≡ ys
  shown_list xs ys back e = all_equal xs ys (by_entries (λ x y. x ≡ y) xs ys (λ i. related show apart (λ x y. x ≡ y) NoEntry (get_elem? xs i) (get_elem? ys i) (back i) (e i)))

-- ## Read back: what is shown of a string, of a constant and of warnings gives them again
back_option : Bytes → prelude.Option StringAt → Option LuaString
back_option b (Some a) = some (record { place = a.place; bytes = b })
back_option b None = none

option_back : (s : Bytes) (t : Option LuaString) → StandsIf s t → back_option (option_shown s (option_string t)) (option_string t) ≡ t
unfolding back_option
option_back s none h = refl
option_back s (some t) h = rw h.there

pub option_same : (s t : Bytes) (a b : Option LuaString) → StandsIf s a → StandsIf t b → option_string a ≡ option_string b → option_shown s (option_string a) ≡ option_shown t (option_string b) → a ≡ b
option_same s t a b h k e f = sym (option_back s a h) ∙ ap₂ back_option f e ∙ option_back t b k

back_value : Bytes → ConstantValue → reading.ConstantValue
back_value b constant.Nil = reading.nil
back_value b (constant.Boolean x) = reading.boolean x
back_value b (constant.Integer z) = reading.integer (of_z w64 z)
back_value b (constant.Float n) = reading.float n
back_value b (constant.ShortString a) = reading.short_string (record { place = a.place; bytes = b })
back_value b (constant.LongString a) = reading.long_string (record { place = a.place; bytes = b })

value-back : (s : Bytes) (k : reading.ConstantValue) → ConstantStands s k → IntegerFits k → back_value (value_shown s (constant_value k)) (constant_value k) ≡ k
unfolding back_value
value-back s reading.nil h fits = refl
value-back s (reading.boolean b) h fits = refl
value-back s (reading.integer n) h fits = ap reading.integer (of_z-to_z {w = w64} {n = n} (record { fits = fits }))
value-back s (reading.float n) h fits = refl
value-back s (reading.short_string t) h fits = rw h.there
value-back s (reading.long_string t) h fits = rw h.there

pub value_same : (s t : Bytes) (a b : reading.ConstantValue) → ConstantStands s a → IntegerFits a → ConstantStands t b → IntegerFits b
    → constant_value a ≡ constant_value b → value_shown s (constant_value a) ≡ value_shown t (constant_value b) → a ≡ b
value_same s t a b h fits k fits' e f = sym (value-back s a h fits) ∙ ap₂ back_value f e ∙ value-back t b k fits'

-- two fronts of one length that were put over the same contents are equal where what then stands there is
pub front_same : {A : Type 0} (x y old : List A) → length x ≡ length y → x ++ drop (length x) old ≡ y ++ drop (length y) old → x ≡ y
front_same x y old size e = sym (take-append_seam x (drop (length x) old)) ∙ ap₂ take size e ∙ take-append_seam y (drop (length y) old)

-- the name of a local variable, from space that has room for it
local_same : (l m : LocalVar) → ((old : Bytes) → shown_local (length old) (found l) ≡ shown_local (length old) (found m)) → ((old : Bytes) → name_written old (found l) ≡ name_written old (found m)) → SameLocal l m
local_same l m e f = go (le-leb (length x) (length (x ++ y)) (omega (arith, length-append x y))) (le-leb (length y) (length (x ++ y)) (omega (arith, length-append x y))) (e (x ++ y)) (f (x ++ y))
  where
    x : Bytes
    x = l.name.bytes

    y : Bytes
    y = m.name.bytes

    go : leb (length x) (length (x ++ y)) ≡ true → leb (length y) (length (x ++ y)) ≡ true → shown_local (length (x ++ y)) (found l) ≡ shown_local (length (x ++ y)) (found m) → name_written (x ++ y) (found l) ≡ name_written (x ++ y) (found m) → SameLocal l m
    go one two e f =
        let said : Ok (record { name_len = (length x); startpc = l.startpc; endpc = l.endpc }) ≡ Ok (record { name_len = (length y); startpc = m.startpc; endpc = m.endpc }) = rw (one, two) at e in
        let wrote : x ++ drop (length x) (x ++ y) ≡ y ++ drop (length y) (x ++ y) = rw (one, two) at f in
        let both : ◌≡◌ {A = LocalShown} (record { name_len = length x; startpc = l.startpc; endpc = l.endpc }) (record { name_len = length y; startpc = m.startpc; endpc = m.endpc }) = cc in
        record { name = front_same x y (x ++ y) (ap (λ k. k.name_len) both) wrote; startpc = ap (λ k. k.startpc) both; endpc = ap (λ k. k.endpc) both }

pub locals_same : (a b : Option LocalVar) → ((old : Bytes) → shown_local (length old) (or_refuse NoEntry a) ≡ shown_local (length old) (or_refuse NoEntry b)) → ((old : Bytes) → name_written old (or_refuse NoEntry a) ≡ name_written old (or_refuse NoEntry b))
    → Related SameLocal a b
locals_same none none e f = tt
locals_same none (some m) e f = let y = m.name.bytes in let said = rw (le-leb (length y) (length y) (omega arith)) at (e y) in let z : ◌≡◌ {A = ℕ} 0 1 = cc in absurd (omega arith)
locals_same (some l) none e f = let x = l.name.bytes in let said = rw (le-leb (length x) (length x) (omega arith)) at (e x) in let z : ◌≡◌ {A = ℕ} 0 1 = cc in absurd (omega arith)
locals_same (some l) (some m) e f = local_same l m e f

-- at most two warnings
warnings-back : (ws : List Warning) → length ws ≤ 2 → list_of (first_warning ws) ++ list_of (first_warning (drop 1 ws)) ≡ ws
warnings-back [] few = refl
warnings-back (w ∷ []) few = refl
warnings-back (w ∷ v ∷ []) few = refl
warnings-back (w ∷ v ∷ u ∷ ws) few = absurd (omega arith)

pub warnings-same : (ws vs : List Warning) → length ws ≤ 2 → length vs ≤ 2 → shown_warnings ws ≡ shown_warnings vs → ws ≡ vs
warnings-same ws vs few few' e = sym (warnings-back ws few) ∙ ap (λ w. list_of w.first ++ list_of w.second) e ∙ warnings-back vs few'

every_header : Every Header (λ h. length h.warnings ≤ 1)
every_header = every_then any λ _ _. every_then any λ place _. every_then any λ format _. every_then any λ _ _. every_is (one place (eqb format 0))
  where
    one : (place : ℕ) (b : Bool) → length (cond b [] (NonStandardFormat place ∷ [])) ≤ 1
    one place true = omega arith
    one place false = omega arith

every_main : (L : ResourceLimits) → Every (Main L) (λ m. length m.headed.warnings ≤ 1)
every_main L = every_then every_header λ headed few. every_then any λ _ _. every_then any λ functions _. every_is few

taken : (n : ℕ) (ws : List Warning) → length (take n ws) ≤ length ws
taken zero ws = omega arith
taken (suc n) [] = omega arith
taken (suc n) (w ∷ ws) = omega (arith, taken n ws)

last : (place : ℕ) (bytes : Bytes) → length (trailing_warnings place bytes) ≤ 1
last place [] = omega arith
last place (b ∷ bs) = omega arith

two-at_most : (n : ℕ) (ws vs : List Warning) → length ws ≤ 1 → length vs ≤ 1 → length (take n (ws ++ vs)) ≤ 2
two-at_most n ws vs h k = omega (arith, taken n (ws ++ vs), length-append ws vs)

pub few_warnings : (L : ResourceLimits) (s : Bytes) (r : Reading) → Chunk L s r → length r.warnings ≤ 2
few_warnings L s r c =
    rw (← ap (λ x. x.warnings) c.shows)
    (two-at_most L.max_diagnostics c.value.headed.warnings (trailing_warnings (length c.front) c.trailing) ((every_main L).holds 0 c.front c.value c.main) (last (length c.front) c.trailing))
