-- What an entry's reader gives, and what the copy makes of it.
--     puts_of              an entry that was read, with its bytes put
--     spelt_is, name-is    a string that stands in the slice is spelt as its bytes there
--     Raw                  an entry of a fixed width: the copy's bytes are those that stand there
-- Assumes nothing.
use mathlib.Core.Path.{◌≡◌, refl, sym, ◌∙◌, ap, ap₂}
use mathlib.Core.Bool.{Bool, true, false}
use mathlib.Core.List.{[], ◌∷◌, ◌++◌, map, flatten}
use mathlib.Core.Option.{Option, none, some, get_or}
use Prim.Native.Nat.{ℕ, zero, suc, ◌+◌, ◌-◌, ◌*◌, ◌≤◌}
use native.Mathlib.Nat.{suc-mul, add_comm}
use native.Mathlib.Omega.{arith}
use lib.Dec.{leb}
use borrow.Author.Tests.{leb-true}
use lib.ListN.{length, take, drop, length-drop, take-append-drop}
use lib.Seq.{length-take-le, take-add, drop-drop}
use Rattle.format.specs.Form.{Bytes, Below, Form}
use Rattle.format.specs.GrammarFields.{LuaString, little}
use Rattle.format.specs.Read.{Read, ok, Reader, piece, run, many}
use Rattle.format.specs.ReadFields.{field}
use Rattle.format.specs.Shortest.{shortest}
use Rattle.format.specs.ReadChunk.{upvalue}
use Rattle.format.specs.Copy.{field_bytes, string_bytes, option_bytes, upvalue_bytes}
use Rattle.format.proofs.Exact.{Exact, never, exact_run, exact_many}
use Rattle.format.proofs.ExactFields.{exact_field, exact_number, exact_string}
use Rattle.format.proofs.FieldBytes.{field_back}
use Rattle.format.proofs.Below.{below_split}
use Rattle.format.proofs.Located.{AtPlace, any, at_give, at_here, at_then, at-string, StandsIf}
use Rattle.read_field.specs.Shown.{option_string}
use Rattle.read_field.proofs.Shows.{Was}
use Rattle.read_entry.specs.Readers.{RawLocal, raw_local}
use Rattle.read_entry.specs.Inner.Counts.{named}
use Rattle.copy_put.specs.Inner.Put.{Put, Puts}
use Rattle.copy_put.specs.Inner.Text.{There, spelt, spelt_name}

module _ {A : Type 0} {bytes : A → Bytes} {o : Read A} {at : ℕ} {l : Bytes} {behind : ℕ} {l' : Bytes} where
  pub puts_of : {x : A} {to : ℕ} → Was o x to → Put (bytes x) at l behind l' → Puts bytes o at l to behind l'
  puts_of {x} {to} w p = record { put = λ y up rest e. same y up (let both = sym w.is ∙ e in cc) (let both = sym w.is ∙ e in cc) }
    where
      same : (y : A) (up : ℕ) → x ≡ y → to ≡ up → (to ≡ up) × Put (bytes y) at l behind l'
      same y up e f = (f, rw (← e) p)

-- ## Strings
module _ (s : Bytes) where
  pub there-is : (t : Option LuaString) → StandsIf s t → There s (option_string t)
  there-is none h = tt
  there-is (some t) h = h.inside

  pub spelt_is : (t : Option LuaString) → StandsIf s t → spelt s (option_string t) ≡ option_bytes t
  spelt_is none h = refl
  spelt_is (some t) h = ap (λ b. shortest (suc (length t.bytes)) ++ b) h.there

  pub name-is : (l : RawLocal) → StandsIf s l.name → spelt_name s (option_string l.name) ≡ string_bytes (named l).name
  name-is l h = from l.name h
    where
      from : (t : Option LuaString) → StandsIf s t → spelt_name s (option_string t) ≡ string_bytes (get_or t (record { place = l.behind; bytes = 63 ∷ [] }))
      from none h = refl
      from (some t) h = spelt_is (some t) h

  pub at-raw_local : {at : ℕ} (limit : ℕ) → AtPlace s at (raw_local limit) (λ to l. StandsIf s l.name)
  at-raw_local limit =
      at_then (exact_string limit) (at-string limit) λ name _ stands.
      at_here λ behind.
      at_then exact_number any λ startpc _ _.
      at_then exact_number any λ endpc _ _.
      at_give λ _. stands

-- ## Entries of a fixed width
pub record Raw {A : Type 0} (s : Bytes) (bytes : A → Bytes) (width at to : ℕ) (x : A) : Type 0 where
  pub place : to ≡ at + width
  pub inside : width ≤ length s - at
  pub same : bytes x ≡ take width (drop at s)

take_join : (s : Bytes) (at a b : ℕ) → take a (drop at s) ++ take b (drop (at + a) s) ≡ take (a + b) (drop at s)
take_join s at a b = sym (take-add a b (drop at s) ∙ ap (λ r. take a (drop at s) ++ take b r) (drop-drop a at s))

pub below_part : (s : Bytes) (n at : ℕ) → Below 256 s → Below 256 (take n (drop at s))
below_part s n at h =
    let back = (below_split 256 (take at s) (drop at s) (rw take-append-drop h)).1 in
    (below_split 256 (take n (drop at s)) (drop n (drop at s)) (rw take-append-drop back)).0

pub at-run : {s : Bytes} {at : ℕ} (n : ℕ) → AtPlace s at (run n) (λ to b. Raw s (λ b. b) n at to b)
at-run {s} {at} n = record { holds = λ {x} {to} {rest} e. from (leb n (length (drop at s))) refl e }
  where
    from : {x : Bytes} {to : ℕ} {rest : Bytes} (t : Bool) → leb n (length (drop at s)) ≡ t → piece t n at (drop at s) ≡ ok x to rest → Raw s (λ b. b) n at to x
    from true t e = let h = leb-true n (length (drop at s)) t in record { place = cc; inside = rw (← length-drop at s) h; same = cc }
    from false t e = absurd (never e)

module _ (s : Bytes) (bytes : Below 256 s) where
  pub raw_field : (n at : ℕ) → AtPlace s at (field n) (λ to v. Raw s (field_bytes n) n at to v)
  raw_field n at =
      at_then (exact_run n) (at-run n) λ b _ h.
      at_give (record {
        place = h.place;
        inside = h.inside;
        same =
            let size : length b ≡ n = ap length h.same ∙ length-take-le n (drop at s) (rw length-drop h.inside) in
            ap (λ k. field_bytes k (little b)) (sym size) ∙ field_back b (rw h.same (below_part s n at bytes)) ∙ h.same;
      })

  -- two, the second right behind the first
  pub joined : (at a mid b : ℕ) (x y : Bytes) → mid ≡ at + a → x ≡ take a (drop at s) → y ≡ take b (drop mid s) → x ++ y ≡ take (a + b) (drop at s)
  joined at a mid b x y e p q = ap₂ ◌++◌ p q ∙ ap (λ k. take a (drop at s) ++ take b (drop k s)) e ∙ take_join s at a b

  pub raw_upvalue : (at : ℕ) → AtPlace s at upvalue (λ to u. Raw s upvalue_bytes 3 at to u)
  raw_upvalue at =
      at_then (exact_field 1) (raw_field 1 at) λ instack _ h.
      at_then (exact_field 1) (raw_field 1 _) λ idx _ k.
      at_then (exact_field 1) (raw_field 1 _) λ kind _ m.
      at_give (record {
        place = m.place ∙ omega (arith, h.place, k.place);
        inside = omega (arith, h.place, k.place, h.inside, k.inside, m.inside);
        same = joined at 1 _ 2 _ _ h.place h.same (joined _ 1 _ 1 _ _ k.place k.same m.same);
      })

  -- one law over all widths
  pub raw_many : {A : Type 0} {r : Reader A} {F : Form A} {enc : A → Bytes} {width : ℕ} → Exact r F → ((at : ℕ) → AtPlace s at r (λ to x. Raw s enc width at to x))
      → (n at : ℕ) → AtPlace s at (many n r) (λ to xs. Raw s (λ xs. flatten (map enc xs)) (n * width) at to xs)
  unfolding flatten
  raw_many {width = width} exact one zero at = let none : 0 * width ≡ 0 = omega arith in at_give (record { place = omega arith; inside = omega arith; same = ap (λ k. take k (drop at s)) (sym none) })
  raw_many {width = width} exact one (suc n) at =
      at_then exact (one at) λ x _ h.
      at_then (exact_many n exact) (raw_many exact one n _) λ xs _ k.
      at_give (record {
        place = k.place ∙ rw (suc-mul n width, h.place) (omega arith);
        inside = rw (suc-mul n width) (omega (arith, h.place, h.inside, k.inside));
        same = joined at width _ (n * width) _ _ h.place h.same k.same ∙ ap (λ m. take m (drop at s)) (add_comm width (n * width) ∙ sym (suc-mul n width));
      })
