-- Random access: each list of a function that was read is read again by itself, at its place.
--     Found s r at x       at this place of the slice the reader r gives x
--     Stands s t           the bytes of the string t stand in the slice at its place
--     Located L s p        each list of the function p is found at its place, and its source stands at its own
--     all_located          so it is with every function of a chunk that is read
-- Assumes nothing.
use mathlib.Core.Path.{◌≡◌, refl, sym, ◌∙◌, ap}
use mathlib.Core.List.{List, [], ◌∷◌, ◌++◌}
use mathlib.Core.Option.{Option, none, some}
use Prim.Native.Nat.{ℕ, zero, suc, ◌+◌, ◌-◌, ◌≤◌}
use native.Mathlib.Omega.{arith}
use lib.ListN.{length, take, drop, length-drop}
use lib.Seq.{length-take-le}
use Rattle.format.specs.declared.limits.ResourceLimits.{ResourceLimits}
use Rattle.format.specs.declared.refusal.Refusal.{Refusal}
use Rattle.format.specs.declared.refusal.Refusal.TheVariants.{StringBytes, Instructions, TotalInstructions, Constants, Upvalues, Prototypes, TotalPrototypes}
use Rattle.format.specs.Form.{Bytes, All, Form}
use Rattle.format.specs.GrammarFields.{LuaString}
use Rattle.format.specs.Reading.{Prototype}
use Rattle.format.specs.GrammarChunk.{Listed, inherit, Where, after, within, Loaded}
use Rattle.format.specs.Read.{Read, ok, refused, Reader, next, ◌>>=◌, ◌>>◌, give, here, refuse, at_most, run, many}
use Rattle.format.specs.ReadFields.{field, content, string}
use Rattle.format.specs.ReadChunk.{counted, counted_up_to, constant, upvalue, anchor, local, forest, body, function, main}
use Rattle.format.proofs.Exact.{Exact, never, exact_then, exact_place, exact_here, exact_at_most, exact_run, exact_many}
use Rattle.format.proofs.ExactFields.{exact_field, exact_number, exact_string}
use Rattle.format.proofs.ExactHeader.{exact_header}
use Rattle.format.proofs.ExactChunk.{exact_counted_up_to, exact_counted, exact_constant, exact_upvalue, exact_anchor, exact_local, exact_refuse, exact_forest, exact_function}
use Rattle.format.proofs.Every.{every_many, every_run, all_append}
use Rattle.format.proofs.Every as every
use Rattle.format.proofs.Left.{left}
use Rattle.format.proofs.Steps.{run_was}

pub record Found {A : Type 0} (s : Bytes) (r : Reader A) (at : ℕ) (x : A) : Type 0 where
  pub to : ℕ
  pub rest : Bytes
  pub is : r at (drop at s) ≡ ok x to rest

-- whatever r reads at this place of the slice, P holds of it and of the place behind it
pub record AtPlace {A : Type 0} (s : Bytes) (at : ℕ) (r : Reader A) (P : ℕ → A → Type 0) : Type 0 where
  pub holds : {x : A} {to : ℕ} {rest : Bytes} → r at (drop at s) ≡ ok x to rest → P to x

abbrev pub Any : {A : Type 0} → ℕ → A → Type 0
Any to x = Unit {0}

pub any : {A : Type 0} {s : Bytes} {at : ℕ} {r : Reader A} → AtPlace s at r Any
any = record { holds = λ e. tt }

pub at_give : {A : Type 0} {s : Bytes} {at : ℕ} {x : A} {P : ℕ → A → Type 0} → P at x → AtPlace s at (give x) P
at_give {at} {x} {P} p = record { holds = λ {x = y} {to} e. let same : x ≡ y = cc in let place : at ≡ to = cc in rw (← same, ← place) p }

pub at-refuse : {A : Type 0} {s : Bytes} {at : ℕ} {q : Refusal} {P : ℕ → A → Type 0} → AtPlace s at (refuse {A = A} q) P
at-refuse = record { holds = λ e. absurd (never e) }

-- a place that is looked up is the place where the reader stands: what follows may use that
pub at_here : {B : Type 0} {s : Bytes} {at : ℕ} {f : ℕ → Reader B} {P : ℕ → B → Type 0} → ((x : ℕ) → AtPlace s at (f x) (λ to y. x ≡ at → P to y)) → AtPlace s at (here >>= f) P
at_here {at} two = record { holds = λ e. (two at).holds e refl }

pub at_then : {A B : Type 0} {s : Bytes} {at : ℕ} {r : Reader A} {F : Form A} {Q : ℕ → A → Type 0} {f : A → Reader B} {P : ℕ → B → Type 0}
    → Exact r F → AtPlace s at r Q → ((x : A) (to : ℕ) → Q to x → AtPlace s to (f x) P) → AtPlace s at (r >>= f) P
at_then {A} {s} {at} {r} {Q} {f} {P} exact one two = record { holds = λ e. go (r at (drop at s)) refl e }
  where
    go : {y : _} {to : ℕ} {rest : Bytes} (o : Read A) → r at (drop at s) ≡ o → next o f ≡ ok y to rest → P to y
    go (ok x mid t) p e = (two x mid (one.holds p)).holds (rw (left exact s at p) at e)
    go (refused q) p e = absurd (never e)

moved : {A : Type 0} {s : Bytes} {r : Reader A} {at place : ℕ} {x : A} → place ≡ at → Found s r at x → Found s r place x
moved p found = rw p found

-- ## Strings
pub record Stands (s : Bytes) (t : LuaString) : Type 0 where
  pub inside : length t.bytes ≤ length s - t.place
  pub there : take (length t.bytes) (drop t.place s) ≡ t.bytes

abbrev pub StandsIf : Bytes → Option LuaString → Type 0
StandsIf s none = Unit {0}
StandsIf s (some t) = Stands s t

at-bytes : {s : Bytes} {at : ℕ} (n : ℕ) → AtPlace s at (run n) (λ to b. (place : ℕ) → place ≡ at → Stands s (record { place = place; bytes = b }))
at-bytes {s} {at} n = record {
  holds = λ {x} e place p.
      let was = run_was n at (drop at s) e in
      let size : length x ≡ n = ap length (sym was.1) ∙ length-take-le n (drop at s) was.0 in
      record { inside = rw (size, p) (omega (arith, was.0, length-drop at s)); there = rw (size, p) was.1 };
}

at-content : {s : Bytes} {at : ℕ} (limit first size : ℕ) → AtPlace s at (content limit first size) (λ to t. StandsIf s t)
at-content limit first zero = at_give tt
at-content limit first (suc n) =
    at_then (exact_at_most n limit (StringBytes first)) any λ _ _ _.
    at_here λ place.
    at_then (exact_run n) (at-bytes n) λ bytes _ stands.
    at_give λ p. stands place p

pub at-string : {s : Bytes} {at : ℕ} (limit : ℕ) → AtPlace s at (string limit) (λ to t. StandsIf s t)
at-string {s} {at} limit = record { holds = λ e. (at_then {s = s} {at = at} exact_number any λ size _ _. at-content limit at size).holds e }

inherited : (s : Bytes) (spelt parent : Option LuaString) → StandsIf s spelt → StandsIf s parent → StandsIf s (inherit spelt parent)
inherited s none parent h k = k
inherited s (some t) parent h k = h

-- ## Lists behind their counts
-- the items, found at the place that is shown
abbrev ListFound : {A : Type 0} → Bytes → Reader A → Listed A → Type 0
ListFound s r l = Found s (many (length l.items) r) l.place l.items

-- as many items as the count says
items-length : {A : Type 0} {r : Reader A} {F : Form A} → Exact r F → (n at : ℕ) (s : Bytes) {xs : List A} {to : ℕ} {rest : Bytes} → many n r at s ≡ ok xs to rest → length xs ≡ n
items-length one n at s e = ((every_many n every.any).holds _ _ _ ((exact_many n one).sound {at = at} {s = s} e).spelt).0

at-items : {A : Type 0} {r : Reader A} {F : Form A} {s : Bytes} {at : ℕ} → Exact r F → (n : ℕ) → AtPlace s at (many n r) (λ to xs. Found s (many (length xs) r) at xs)
at-items {s} {at} one n = record { holds = λ {to} {rest} e. record { to = to; rest = rest; is = rw (items-length one n at (drop at s) e) e } }

at-run : {s : Bytes} {at : ℕ} (n : ℕ) → AtPlace s at (run n) (λ to b. Found s (run (length b)) at b)
at-run {s} {at} n = record {
  holds = λ {x} {to} {rest} e.
      let size : length x ≡ n = (every_run n).holds at _ _ ((exact_run n).sound {at = at} {s = drop at s} e).spelt in
      record { to = to; rest = rest; is = rw size e };
}

at-counted : {A : Type 0} {r : Reader A} {F : Form A} {s : Bytes} {at : ℕ} → Exact r F → AtPlace s at (counted r) (λ to l. ListFound s r l)
at-counted one =
    at_then exact_number any λ n _ _.
    at_here λ place.
    at_then (exact_many n one) (at-items one n) λ items _ found.
    at_give λ p. moved p found

at-counted_up_to : {A : Type 0} {r : Reader A} {F : Form A} {s : Bytes} {at : ℕ} (limit : ℕ) (refusal : ℕ → Refusal) → Exact r F → AtPlace s at (counted_up_to limit refusal r) (λ to l. ListFound s r l)
at-counted_up_to limit refusal one =
    at_here λ first.
    at_then exact_number any λ n _ _.
    at_then (exact_at_most n limit (refusal first)) any λ _ _ _.
    at_here λ place.
    at_then (exact_many n one) (at-items one n) λ items _ found.
    at_give λ p _. moved p found

-- ## Functions
pub record Located (L : ResourceLimits) (s : Bytes) (p : Prototype) : Type 0 where
  pub source_name : StandsIf s p.source_name
  pub instructions : Found s (many (length p.instructions) (field 4)) p.places.instructions p.instructions
  pub constants : Found s (many (length p.constants) (constant L.max_string_bytes)) p.places.constants p.constants
  pub upvalues : Found s (many (length p.upvalues) upvalue) p.places.upvalues p.upvalues
  pub line_info_lem : Found s (run (length p.line_info_lem)) p.places.line_info_lem p.line_info_lem
  pub abs_line_info : Found s (many (length p.abs_line_info) anchor) p.places.abs_line_info p.abs_line_info
  pub loc_vars : Found s (many (length p.loc_vars) (local L.max_string_bytes)) p.places.loc_vars p.loc_vars
  pub upvalue_names_lem : Found s (many (length p.upvalue_names_lem) (string L.max_string_bytes)) p.places.upvalue_names_lem p.upvalue_names_lem

module _ (L : ResourceLimits) (s : Bytes) where
  abbrev There : ℕ → List Prototype → Type 0
  There to ps = All (Located L s) ps

  at-forest : (n : ℕ) {at : ℕ} {r : Where → Reader (List Prototype)} {F : Where → Form (List Prototype)} (w : Where) → ((w : Where) → Exact (r w) (F w))
      → ((w : Where) (at : ℕ) → StandsIf s w.source → AtPlace s at (r w) There) → StandsIf s w.source → AtPlace s at (forest n r w) There
  at-forest zero w exact one source = at_give tt
  at-forest (suc n) w exact one source =
      at_then (exact w) (one w _ source) λ ps _ h.
      at_then (exact_forest n (after ps w) exact) (at-forest n (after ps w) exact one source) λ more _ k.
      at_give (all_append (Located L s) ps more h k)

  at_body : {r : Where → Reader (List Prototype)} {F : Where → Form (List Prototype)} → ((w : Where) → Exact (r w) (F w))
      → ((w : Where) (at : ℕ) → StandsIf s w.source → AtPlace s at (r w) There) → (w : Where) (at : ℕ) → StandsIf s w.source → AtPlace s at (body L r w) There
  unfolding body
  at_body exact one w at source =
      at_here λ start.
      at_then (exact_string L.max_string_bytes) (at-string L.max_string_bytes) λ spelt _ stands.
      at_then exact_number any λ line_defined _ _.
      at_then exact_number any λ last_line_defined _ _.
      at_then (exact_field 1) any λ numparams _ _.
      at_then (exact_field 1) any λ is_vararg _ _.
      at_then (exact_field 1) any λ maxstacksize _ _.
      at_here λ first.
      at_then exact_number any λ size _ _.
      at_then (exact_at_most size L.max_instructions_per_proto (Instructions first)) any λ _ _ _.
      at_then (exact_at_most (w.instructions + size) L.max_total_instructions (TotalInstructions first)) any λ _ _ _.
      at_here λ instructions_at.
      at_then (exact_many size (exact_field 4)) (at-items (exact_field 4) size) λ instructions _ h1.
      at_then (exact_counted_up_to L.max_constants_per_proto Constants (exact_constant L.max_string_bytes)) (at-counted_up_to _ Constants (exact_constant _)) λ constants _ h2.
      at_then (exact_counted_up_to L.max_upvalues_per_proto Upvalues exact_upvalue) (at-counted_up_to _ Upvalues exact_upvalue) λ upvalues _ h3.
      at_here λ first.
      at_then exact_number any λ protos _ _.
      at_then (exact_at_most protos L.max_total_prototypes (Prototypes first)) any λ _ _ _.
      at_here λ protos-at.
      at_then (exact_forest protos (within w (inherit spelt w.source) (length instructions)) exact) (at-forest protos (within w (inherit spelt w.source) (length instructions)) exact one (inherited s spelt w.source stands source)) λ nested _ rest.
      at_then exact_number any λ line-info-size _ _.
      at_here λ line-info-at.
      at_then (exact_run line-info-size) (at-run line-info-size) λ line_info_lem _ h4.
      at_then (exact_counted exact_anchor) (at-counted exact_anchor) λ abs_line_info _ h5.
      at_then (exact_counted (exact_local L.max_string_bytes)) (at-counted (exact_local _)) λ loc_vars _ h6.
      at_then (exact_counted (exact_string L.max_string_bytes)) (at-counted (exact_string _)) λ upvalue_names_lem _ h7.
      at_here λ end.
      at_give λ _ p4 _ _ p1 _ _.
      (record { source_name = inherited s spelt w.source stands source; instructions = moved p1 h1; constants = h2; upvalues = h3; line_info_lem = moved p4 h4; abs_line_info = h5; loc_vars = h6; upvalue_names_lem = h7 }, rest)

  at-function : (left : ℕ) (w : Where) (at : ℕ) → StandsIf s w.source → AtPlace s at (function L left w) There
  unfolding function
  at-function zero w at source = at_body (λ w. exact_place λ place. exact_refuse _) (λ w at _. at_here λ place. at-refuse) w at source
  at-function (suc left) w at source =
      at_body (λ w. exact_place λ place. exact_then (exact_at_most w.number L.max_total_prototypes (TotalPrototypes place)) λ _. exact_function L left w)
      (λ w at source. at_entering left w at (λ to. at-function left w to source)) w at source
    where
      at_entering : (left : ℕ) (w : Where) (at : ℕ) → ((to : ℕ) → AtPlace s to (function L left w) There) → AtPlace s at (here >>= λ place. at_most w.number L.max_total_prototypes (TotalPrototypes place) >> function L left w) There
      at_entering left w at inner = record { holds = λ e. (at_then (exact_at_most w.number L.max_total_prototypes (TotalPrototypes at)) any λ _ to _. inner to).holds e }

  at-main : AtPlace s 0 (main L) (λ to m. All (Located L s) m.functions)
  at-main =
      at_then exact_header any λ headed _ _.
      at_then (exact_field 1) any λ forgotten _ _.
      at_then (exact_function L L.max_nesting_depth _) (at-function L.max_nesting_depth _ _ tt) λ functions _ h.
      at_give h

  pub all_located : {m : Loaded} {to : ℕ} {rest : Bytes} → main L 0 s ≡ ok m to rest → All (Located L s) m.functions
  all_located e = at-main.holds e
