-- The source of a function and its parent's, in the code's terms: by what the calls showed.
--     stands           what was read as a string stands there
--     differ, no_room, compared        the test of two strings, at its three returns
--     none_outer, some_outer           with the parent's source
--     spelt-at, inherits_at            the source that a function spells, and the one that those in it inherit, by their places
--     none_read, some_read             what the code shows of what is spelt at a place
--     at_stands                        what is spelt at a place stands there
--     not-spelt, own_is                whether it is the parent's
--     none-at-end                      no string begins at the end of the slice
-- Assumes nothing.
use Rattle.std.specs.Prelude as prelude
use Rattle.std.specs.Prelude.{Some, None, Ok, Err}
use mathlib.Core.Path.{◌≡◌, refl, sym, ◌∙◌, ap, ap₂}
use mathlib.Core.Bool.{Bool, true, false}
use mathlib.Core.Option.{Option, none, some}
use Prim.Native.Nat.{ℕ, ◌<◌}
use native.Mathlib.Omega.{arith}
use lib.Dec.{T}
use lib.ListN.{length, take, drop, length-drop}
use lib.Seq.{drop-length}
use Rattle.format.specs.declared.limits.ResourceLimits.{ResourceLimits}
use Rattle.format.specs.declared.refusal.Refusal.{Refusal}
use Rattle.format.specs.Form.{Bytes}
use Rattle.format.specs.GrammarFields.{LuaString}
use Rattle.format.specs.GrammarChunk.{inherit}
use Rattle.format.specs.Read.{Read, ok, refused}
use Rattle.format.specs.ReadFields.{string}
use Rattle.format.specs.ReadHeader.{same_bytes}
use Rattle.format.specs.FullCopy.{equal_sources}
use Rattle.format.proofs.ExactHeader.{same_eq}
use Rattle.format.proofs.Located.{at-string, StandsIf}
use Rattle.slice.specs.declared.cursor.Cursor.{Cursor}
use Rattle.slice.specs.Shown.{cursor_at}
use Rattle.read_field.specs.declared.string.StringAt.{StringAt}
use Rattle.read_field.specs.Shown.{option_string, string_result}
use Rattle.read_prototype.specs.Parts as parts
use Rattle.read_prototype.specs.Inner.Counts.{is_spelt}
use Rattle.read_prototype.proofs.OwnSource.{its_source}
use Rattle.read_walk.specs.Inner.Source.{Stands, string_at, SameString, ParentsOwn, spelt, source_at, repeats, repeats_at, handed}

pub stands : (s : Bytes) (t : Option LuaString) → StandsIf s t → Stands s t
stands s none h = tt
stands s (some t) h = (h.inside, h.there)

-- ## Two strings
true_T : {b : Bool} → b ≡ true → T b
true_T e = rw e tt

unlike : (xs ys : Bytes) → (length xs ≡ length ys → ⊥) → same_bytes xs ys ≡ false
unlike xs ys h = by (same_bytes xs ys) refl
  where
    by : (b : Bool) → same_bytes xs ys ≡ b → same_bytes xs ys ≡ false
    by true e = absurd (h (ap length (same_eq xs ys (true_T e))))
    by false e = e

module _ (s : Bytes) (first second : StringAt) where
  pub differ : (first.len ≡ second.len → ⊥) → SameString s first second false
  differ h = record { is = λ t u e f _ _. sym (unlike t.bytes u.bytes (λ same. h (ap (λ (x : StringAt). x.len) e ∙ same ∙ sym (ap (λ (x : StringAt). x.len) f)))) }

  module _ (alike : first.len ≡ second.len) (other : Bytes) (is : other ≡ take second.len (drop second.place s)) where
    -- what stands in s, at the place and of the length of one that the code shows
    its_bytes : (x : StringAt) (t : LuaString) → x ≡ string_at t → Stands s (some t) → take x.len (drop x.place s) ≡ t.bytes
    its_bytes x t e h = ap₂ (λ n k. take n (drop k s)) (ap (λ (x : StringAt). x.len) e) (ap (λ (x : StringAt). x.place) e) ∙ h.1

    as_long : (u : LuaString) → second ≡ string_at u → Stands s (some u) → length other ≡ first.len
    as_long u f k = ap length (is ∙ its_bytes second u f k) ∙ sym (ap (λ (x : StringAt). x.len) f) ∙ sym alike

    pub no_room : {n : ℕ} → n ≡ length (drop first.place s) → n < length other → SameString s first second false
    no_room {n} size few = record {
      is = λ t u e f h k.
          let long = as_long u f k in
          let place : first.place ≡ t.place = ap (λ (x : StringAt). x.place) e in
          let len : first.len ≡ length t.bytes = ap (λ (x : StringAt). x.len) e in
          let room = h.0 in
          absurd (omega (arith, size, few, long, place, len, room, length-drop first.place s));
    }

    pub compared : {r : Bool} → r ≡ same_bytes (take (length other) (drop first.place s)) other → SameString s first second r
    compared c = record {
      is = λ t u e f h k. c ∙ ap₂ same_bytes (ap (λ n. take n (drop first.place s)) (as_long u f k) ∙ its_bytes first t e h) (is ∙ its_bytes second u f k);
    }

-- ## With the parent's source
pub no_outer : (p : Option LuaString) → None ≡ option_string p → p ≡ none
no_outer none e = refl
no_outer (some u) e = absurd (let z : ◌≡◌ {A = ℕ} 0 1 = cc in omega arith)

pub none_outer : (s : Bytes) (spelt : StringAt) → ParentsOwn s spelt None false
none_outer s spelt = record { is = λ t p e f h k. rw (no_outer p f) }

pub some_outer : (s : Bytes) (spelt outer : StringAt) {r : Bool} → SameString s spelt outer r → ParentsOwn s spelt (Some outer) r
some_outer s spelt outer {r} a = record { is = λ t p e f h k. by t p e f h k }
  where
    by : (t : LuaString) (p : Option LuaString) → spelt ≡ string_at t → Some outer ≡ option_string p → Stands s (some t) → Stands s p → r ≡ equal_sources (some t) p
    by t none e f h k = absurd (let z : ◌≡◌ {A = ℕ} 0 1 = cc in omega arith)
    by t (some u) e f h k = a.is t u e (let same : outer ≡ string_at u = cc in same) h k

-- ## By places
-- what `source_at` shows, by what was read
pub none_read : (o : Read (Option LuaString)) {q : Refusal} → Err q ≡ string_result o → None ≡ option_string (spelt o)
none_read (ok t to rest) e = absurd (let z : ◌≡◌ {A = ℕ} 0 1 = cc in omega arith)
none_read (refused q) e = refl

pub some_read : (o : Read (Option LuaString)) {x : prelude.Option StringAt} {c : Cursor} → Ok (x, c) ≡ string_result o → x ≡ option_string (spelt o)
some_read (ok t to rest) {x} {c} e = let both : ◌≡◌ {A = prelude.Option StringAt × Cursor} (x, c) (option_string t, cursor_at to) = cc in ap (λ p. p.0) both
some_read (refused q) {x} {c} e = absurd (let z : ◌≡◌ {A = ℕ} 0 1 = cc in omega arith)

-- what is spelt at a place stands there
pub at_stands : (limit : ℕ) (s : Bytes) (at : ℕ) → Stands s (source_at limit s at)
at_stands limit s at = by (string limit at (drop at s)) refl
  where
    by : (o : Read (Option LuaString)) → string limit at (drop at s) ≡ o → Stands s (spelt o)
    by (ok t to rest) e = stands s t ((at-string {s = s} {at = at} limit).holds e)
    by (refused q) e = tt

pub not-spelt : (t p : Option LuaString) → None ≡ option_string t → false ≡ repeats t p
not-spelt t p e = rw (no_outer t e)

module _ (limit : ℕ) (s : Bytes) (own parent : ℕ) where
  -- it is the parent's, by the test
  pub own_is : {x : StringAt} {r : Bool} → Some x ≡ option_string (source_at limit s own) → ParentsOwn s x (option_string (source_at limit s parent)) r → r ≡ repeats_at limit s own parent
  own_is {x} {r} e a = by (source_at limit s own) e (at_stands limit s own)
    where
      by : (t : Option LuaString) → Some x ≡ option_string t → Stands s t → r ≡ repeats t (source_at limit s parent)
      by none e h = absurd (let z : ◌≡◌ {A = ℕ} 0 1 = cc in omega arith)
      by (some t) e h = a.is t (source_at limit s parent) (let same : x ≡ string_at t = cc in same) refl h (at_stands limit s parent)

-- a function's own, of a head that was read
pub spelt-at : (L : ResourceLimits) (before : ℕ) (s : Bytes) (at : ℕ) {h : parts.Head} {to : ℕ} {rest : Bytes} → parts.head L before at (drop at s) ≡ ok h to rest → source_at L.max_string_bytes s at ≡ h.front.source
spelt-at L before s at e = ap spelt (its_source L before at (drop at s) e).is

-- those in it inherit it, or what it inherits
pub inherits_at : (limit : ℕ) (s : Bytes) (at parent : ℕ) (t outer : Option LuaString) → source_at limit s at ≡ t → outer ≡ source_at limit s parent → inherit t outer ≡ source_at limit s (handed (is_spelt (option_string t)) at parent)
inherits_at limit s at parent none outer e f = f
inherits_at limit s at parent (some t) outer e f = sym e

pub none-at-end : (limit : ℕ) (s : Bytes) → source_at limit s (length s) ≡ none
none-at-end limit s = ap (λ b. spelt (string limit (length s) b)) (drop-length s)
