-- A string that the copy fills where it is absent: counted by its size and, where it is absent, once more. It stands in a constant, and as the name of a local variable.
-- Assumes nothing.
use Rattle.std.specs.Prelude as prelude
use Rattle.std.specs.Prelude.{Result, Ok, Err}
use Rattle.read_field.specs.declared.string.StringAt.{StringAt}
use mathlib.Core.Path.{◌≡◌, refl, sym, subst, ◌∙◌, ap}
use mathlib.Core.List.{List, [], ◌∷◌}
use mathlib.Core.Option.{Option, none, some, get_or}
use Prim.Native.Nat.{ℕ, ◌^◌, ◌<◌}
use native.Mathlib.Omega.{arith}
use lib.ListN.{drop}
use Rattle.format.specs.declared.refusal.Refusal.{Refusal}
use Rattle.format.specs.Form.{Bytes}
use Rattle.format.specs.GrammarFields.{LuaString}
use Rattle.format.specs.declared.spelling.Spelling.{Spelling}
use Rattle.format.specs.Read.{ok, Reader, next}
use Rattle.format.specs.ReadFields.{number, string}
use Rattle.format.specs.ReadChunk.{always, local}
use Rattle.format.proofs.ExactChunk.{exact_always}
use Rattle.format_spelling.specs.Spelling.{◌⊕◌, filling}
use Rattle.format_spelling.specs.ReadSpelling as count
use Rattle.format_spelling.specs.Inner.Tally.{counts, Between, Room, Fits, Adds}
use Rattle.format_spelling.proofs.Sums.{join_assoc}
use Rattle.format_spelling.proofs.SpellingLaws.{tells_always}
use Rattle.format_spelling.proofs.Few.{few_always}
use Rattle.format_spelling.proofs.Covers.{Covers, covers_few, between_join}
use Rattle.format_spelling.proofs.Passing.{stepped}
use Rattle.format_spelling.proofs.Tallies.{adds-all}
use Rattle.slice.specs.declared.cursor.Cursor.{Cursor}
use Rattle.slice.specs.Inner.Results.{cursor_result}
use Rattle.read_field.specs.Shown.{option_string}
use Rattle.read_field.proofs.Shows.{Showed, cursor_err}
use Rattle.read_entry.specs.Inner.Absent.{of_string}
use Rattle.read_entry.proofs.Passes.{Passes, passes_value, passes_stop, passes_on}
use Rattle.read_entry.proofs.DebugInfo.{numbers}

-- an absent one reads as what is given instead
abbrev or_else : Bytes → Option LuaString → ℕ → LuaString
or_else instead t place = get_or t (record { place = place; bytes = instead })

abbrev filled : Bytes → Option LuaString → Reader LuaString
filled instead t at s = ok (or_else instead t at) at s

pub passes_filled : (limit : ℕ) (instead : Bytes) (at : ℕ) (s : Bytes) {n : Spelling} {a : Result Cursor Refusal} {t t' : List ℕ} → Passes (string limit at s) n a t t' → Passes (always limit instead at s) n a t t'
passes_filled limit instead at s p = passes_value (or_else instead) (string limit at s) p

pub covers_filled : (limit : ℕ) → Covers (string limit) (count.always limit)
covers_filled limit = record { covers = λ at s e. (covers_few (exact_always limit []) (tells_always limit []) (few_always limit [])).covers at s (ap (λ o. next o (filled [])) e) }

-- ## Its count
filling-is : (t : Option LuaString) → of_string (option_string t) ≡ filling t
filling-is none = refl
filling-is (some t) = refl

module _ (limit at : ℕ) (s : Bytes) {shown : prelude.Option StringAt} {to : ℕ} (w : Showed option_string (string limit at s) shown to) {t t₁ : List ℕ} (adds : Adds (string limit at s) (count.string at s) t t₁) where
  both : counts t₁ ⊕ of_string shown ≡ counts t ⊕ count.always limit at s
  both =
      ap (λ a. counts t₁ ⊕ a) (ap of_string w.shows ∙ filling-is w.value)
      ∙ ap (λ a. a ⊕ filling w.value) (adds.adds w.was.is)
      ∙ join_assoc (counts t) (count.string at s) (filling w.value)
      ∙ ap (λ a. counts t ⊕ a) (sym (stepped (string limit) count.string (λ t _ _. filling t) at s w.was.is))

  pub filled-fits : Room t at → to < 2 ^ 64 → Fits (counts t₁) (of_string shown)
  filled-fits room small =
      let b = subst (λ a. Between a 0 to) (sym both) (between_join room.room ((covers_filled limit).covers at s w.was.is)) in
      record { padded = omega (arith, b.padded); filled = omega (arith, b.filled); sources = omega (arith, b.sources); repeated = omega (arith, b.repeated) }

  pub filled-adds : {t₂ : List ℕ} → counts t₂ ≡ counts t₁ ⊕ of_string shown → Adds (string limit at s) (count.always limit at s) t t₂
  filled-adds e = adds-all (e ∙ both)

-- ## A local variable: its name, and what is behind it
module _ (limit : ℕ) (s : Bytes) (at : ℕ) where
  pub name_stop : {n : Spelling} {q : Refusal} {t t' : List ℕ} → Err q ≡ cursor_result (string limit at (drop at s)) → Passes (local limit at (drop at s)) n (Err q) t t'
  name_stop {q = q} e = passes_stop (always limit (63 ∷ [])) numbers at (drop at s) (ap (λ o. next o (filled (63 ∷ []))) (cursor_err (string limit at (drop at s)) q e))

  pub name-on : {k : Cursor} {a : Result Cursor Refusal} {t t₁ t₂ : List ℕ} → Passes (string limit at (drop at s)) (count.always limit at (drop at s)) (Ok k) t t₁
      → ((name : LuaString) → Passes (numbers name k.at (drop k.at s)) (count.plus number count.number (λ startpc. count.number) k.at (drop k.at s)) a t₁ t₂) → Passes (local limit at (drop at s)) (count.local limit at (drop at s)) a t t₂
  name-on one two = passes_on (exact_always limit (63 ∷ [])) (count.always limit) numbers (λ name. count.plus number count.number λ startpc. count.number) s at (passes_filled limit (63 ∷ []) at (drop at s) one) two
