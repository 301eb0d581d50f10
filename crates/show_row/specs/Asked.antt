-- What a call asks of a chunk, and what it finds: a part of the reading, or the refusal.
-- The order is 01's: 21, 22 and 1 to 20 (`read`), then 23, then 24.
use Rattle.std.specs.Prelude.{List, ℕ}
use Rattle.std.proofs.Math.Option.{Option, none, some}
use Rattle.std.proofs.Math.ListN.{get_elem?}
use Rattle.format.specs.declared.refusal.Refusal.{Refusal}
use Rattle.format.specs.declared.refusal.Refusal.TheVariants.{NoFunction, NoEntry}
use Rattle.format.specs.Reading.{Prototype}
use Rattle.format.specs.ReadChunk.{Outcome, shown, refusal}

pub data Asked (A : Type 0) : Type 0 where
  found : A → Asked A
  refused : Refusal → Asked A

abbrev pub or_refuse : {A : Type 0} → Refusal → Option A → Asked A
or_refuse q none = refused q
or_refuse q (some x) = found x

-- the function of that number, in the order their bytes begin
abbrev pub function_of : ℕ → Outcome → Asked Prototype
function_of n (shown r) = or_refuse NoFunction (get_elem? r.functions n)
function_of n (refusal q) = refused q

-- the entry of that number in a list of a function
abbrev pub entry_in : {A : Type 0} → (Prototype → List A) → ℕ → Asked Prototype → Asked A
entry_in list n (found p) = or_refuse NoEntry (get_elem? (list p) n)
entry_in list n (refused q) = refused q

abbrev pub entry_of : {A : Type 0} → (Prototype → List A) → ℕ → ℕ → Outcome → Asked A
entry_of list f n o = entry_in list n (function_of f o)
