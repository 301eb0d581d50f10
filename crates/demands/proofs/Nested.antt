-- Each function of a chunk that is read is found again in two parts: its head where it begins, its tail behind the functions that nest in it.
--     last_end k place ps             of the functions ps, the end of the last one that nests in function k; the place itself where none does
--     Parted L s before p later      the function p, with those before it and those behind it, is found so; the head as one that no instruction of another function comes before
--     all_parted                     so it is with every function of a chunk that is read
-- Assumes nothing.
use mathlib.Core.Path.{◌≡◌, refl, sym, ◌∙◌, ap, subst}
use mathlib.Core.Bool.{false, cond}
use mathlib.Core.List.{List, [], ◌∷◌, ◌++◌, append-nil, append_assoc}
use mathlib.Core.Option.{some}
use Prim.Native.Nat.{ℕ, zero, suc, ◌+◌, ◌≤◌, ◌<◌}
use native.Mathlib.Omega.{arith}
use lib.Dec.{eqb}
use lib.ListN.{length, take, drop, length-append, get_elem?}
use borrow.Author.Tests.{eq-eqb, ne_eqb}
use Rattle.format.specs.declared.limits.ResourceLimits.{ResourceLimits}
use Rattle.format.specs.declared.refusal.Refusal.TheVariants.{TotalPrototypes, Prototypes}
use Rattle.format.specs.Form.{Bytes, All, Form}
use Rattle.format.specs.Reading.{Reading, Prototype}
use Rattle.format.specs.GrammarChunk.{Where, after, Loaded, reading}
use Rattle.format.specs.Read.{Read, ok, refused, Reader}
use Rattle.format.specs.ReadChunk.{forest, function, main, outcome, shown, read}
use Rattle.format.proofs.Every.{all_append}
use Rattle.format.proofs.Exact.{Exact, exact_at_most}
use Rattle.format.proofs.ExactFields.{exact_field, exact_number}
use Rattle.format.proofs.ExactHeader.{exact_header}
use Rattle.format.proofs.ExactChunk.{exact_forest, exact_function}
use Rattle.format.proofs.Located.{Found, AtPlace, any, at_give, at-refuse, at_here, at_then}
use Rattle.format_lua.proofs.LdumpWhole.{source_of}
use Rattle.format.proofs.ReadChunkLaws.{read_sound, main_complete}
use Rattle.read_entry.specs.Readers.{protos_count}
use Rattle.read_list.proofs.Within.{exact_protos_count}
use Rattle.read_prototype.specs.Parts.{Head, head, Tail, tail}
use Rattle.read_prototype.specs.Inner.Whole.{prototype_of, inside, parts}
use Rattle.read_prototype.proofs.FrontAnswers.{exact_front}
use Rattle.read_prototype.proofs.HeadAnswers.{exact_lists}
use Rattle.read_walk.specs.Inner.Skim.{entered}
use Rattle.read_walk.proofs.Entering.{exact_entered}
use Rattle.read_walk.proofs.HeadTail.{exact_head, exact_tail}
use Rattle.read_walk.proofs.OneFunction.{by_parts}
use Rattle.read_next.proofs.Fewer.{fewer_head}

-- ## What the reading says
abbrev pub last_end : ℕ → ℕ → List Prototype → ℕ
last_end k place [] = place
last_end k place (p ∷ ps) = last_end k (cond (eqb p.parent k) p.end place) ps

pub record Parted (L : ResourceLimits) (s : Bytes) (before : List Prototype) (p : Prototype) (later : List Prototype) : Type 0 where
  pub place : Where
  pub first : Head
  pub rest : Tail
  pub is : p ≡ prototype_of place p.start first rest p.end
  pub source : place.source ≡ source_of before p.parent
  pub at_start : Found s (head L 0) p.start first
  pub trailing : Bytes
  pub behind_nested : tail L.max_string_bytes (last_end (length before) p.places.protos later) (drop (last_end (length before) p.places.protos later) s) ≡ ok rest p.end trailing

-- ## Laws of these
last-append : (k place : ℕ) (ps more : List Prototype) → last_end k place (ps ++ more) ≡ last_end k (last_end k place ps) more
last-append k place [] more = refl
last-append k place (p ∷ ps) more = last-append k (cond (eqb p.parent k) p.end place) ps more

abbrev NotIn : ℕ → Prototype → Type 0
NotIn k y = eqb y.parent k ≡ false

last_none : (k place : ℕ) (ps : List Prototype) → All (NotIn k) ps → last_end k place ps ≡ place
last_none k place [] a = refl
last_none k place (p ∷ ps) a = rw a.0 (last_none k place ps a.1)

source-append : (k : ℕ) (ps more : List Prototype) → k < length ps → source_of (ps ++ more) k ≡ source_of ps k
source-append k [] more h = absurd (omega (arith, h))
source-append zero (p ∷ ps) more h = refl
source-append (suc k) (p ∷ ps) more h = source-append k ps more (omega (arith, h))

source-last : (ps : List Prototype) (p : Prototype) → source_of (ps ++ (p ∷ [])) (length ps) ≡ p.source_name
source-last [] p = refl
source-last (q ∷ ps) p = source-last ps p

all_map : {A : Type 0} {P Q : A → Type 0} → ((x : A) → P x → Q x) → (xs : List A) → All P xs → All Q xs
all_map f [] a = tt
all_map f (x ∷ xs) a = (f x a.0, all_map f xs a.1)

-- P stands for what holds of a function, those before it and those behind it
abbrev EachOf : (List Prototype → Prototype → List Prototype → Type 0) → List Prototype → List Prototype → Type 0
EachOf P before [] = Unit {0}
EachOf P before (p ∷ ps) = P before p ps × EachOf P (before ++ (p ∷ [])) ps

each_nth : (P : List Prototype → Prototype → List Prototype → Type 0) (before ps : List Prototype) → EachOf P before ps → (k : ℕ) {p : Prototype} → get_elem? ps k ≡ some p → P (before ++ take k ps) p (drop (suc k) ps)
each_nth P before [] e k there = absurd (let z : ◌≡◌ {A = ℕ} 0 1 = cc in omega arith)
each_nth P before (q ∷ ps) e zero {p} there =
    let same : q ≡ p = cc in
    subst (λ b. P b p ps) (sym (append-nil before)) (subst (λ q. P before q ps) same e.0)
each_nth P before (q ∷ ps) e (suc k) {p} there = subst (λ b. P b p (drop (suc k) ps)) (append_assoc before (q ∷ []) (take k ps)) (each_nth P (before ++ (q ∷ [])) ps e.1 k there)

-- what a reader gave at a place
pub record Got {A : Type 0} (s : Bytes) (at : ℕ) (r : Reader A) (to : ℕ) (x : A) : Type 0 where
  pub rest : Bytes
  pub is : r at (drop at s) ≡ ok x to rest

pub got : {A : Type 0} {s : Bytes} {at : ℕ} {r : Reader A} → AtPlace s at r (Got s at r)
got = record { holds = λ {rest} e. record { rest = rest; is = e } }

pub both : {A : Type 0} {s : Bytes} {at : ℕ} {r : Reader A} {P Q : ℕ → A → Type 0} → AtPlace s at r P → AtPlace s at r Q → AtPlace s at r (λ to x. P to x × Q to x)
both p q = record { holds = λ e. (p.holds e, q.holds e) }

-- ## The walk
module _ (L : ResourceLimits) (s : Bytes) where
  abbrev Each : List Prototype → List Prototype → Type 0
  Each before ps = EachOf (Parted L s) before ps

  -- whatever functions come before those from w on
  abbrev EachFrom : Where → List Prototype → Type 0
  EachFrom w ps = (before : List Prototype) → length before ≡ w.number → w.source ≡ source_of before w.parent → Each before ps

  -- a function with all that nest in it, up to a place
  abbrev Top : Where → ℕ → List Prototype → Type 0
  Top w to [] = ⊥
  Top w to (p ∷ nested) = (p.parent ≡ w.parent) × (p.end ≡ to) × All (λ y. w.number ≤ y.parent) nested

  -- a function of those that nest in `parent`, from the number `number` on, or nests in one of these
  abbrev Beyond : ℕ → ℕ → Prototype → Type 0
  Beyond parent number y = (parent ≤ y.parent) × ((n : ℕ) → parent < n → n < number → NotIn n y)

  -- ### Functions one behind the other
  later_too : {before : List Prototype} {p : Prototype} {ps : List Prototype} (more : List Prototype) → All (NotIn (length before)) more → Parted L s before p ps → Parted L s before p (ps ++ more)
  later_too {before} {p} {ps} more none_of f =
      let same = last-append (length before) p.places.protos ps more ∙ last_none (length before) (last_end (length before) p.places.protos ps) more none_of in
      record {
        place = f.place;
        first = f.first;
        rest = f.rest;
        is = f.is;
        source = f.source;
        at_start = f.at_start;
        trailing = f.trailing;
        behind_nested = ap (λ at. tail L.max_string_bytes at (drop at s)) same ∙ f.behind_nested;
      }

  each_append : (before ps more : List Prototype) → ((n : ℕ) → length before ≤ n → n < length before + length ps → All (NotIn n) more) → Each before ps → Each (before ++ ps) more → Each before (ps ++ more)
  each_append before [] more out e f = rw (append-nil before) at f
  each_append before (p ∷ ps) more out e f =
      let size = length-append before (p ∷ []) in (
        later_too more (out (length before) (omega arith) (omega arith)) e.0,
        each_append (before ++ (p ∷ [])) ps more (λ n h k. out n (omega arith) (omega arith)) e.1 (rw (← append_assoc before (p ∷ []) ps) at f),
      )

  top_end : (w : Where) (at to : ℕ) (ps : List Prototype) → w.parent < w.number → Top w to ps → last_end w.parent at ps ≡ to
  top_end w at to [] h t = absurd t
  top_end w at to (p ∷ nested) h t =
      rw (eq-eqb p.parent w.parent t.0) (last_none w.parent p.end nested (all_map (λ y k. ne_eqb y.parent w.parent (λ e. omega (arith, e))) nested t.2) ∙ t.1)

  top_beyond : (w : Where) (to : ℕ) (ps : List Prototype) → w.parent < w.number → Top w to ps → All (Beyond w.parent w.number) ps
  top_beyond w to [] h t = absurd t
  top_beyond w to (p ∷ nested) h t =
      let own = t.0 in (
        (omega arith, λ n k m. ne_eqb p.parent n (λ e. omega (arith, e))),
        all_map (λ y k. (omega arith, λ n i m. ne_eqb y.parent n (λ e. omega (arith, e)))) nested t.2,
      )

  abbrev Forest : Where → ℕ → ℕ → List Prototype → Type 0
  Forest w at to ps = EachFrom w ps × All (Beyond w.parent w.number) ps × (last_end w.parent at ps ≡ to)

  joined : (w : Where) (at to end : ℕ) (ps more : List Prototype) → w.parent < w.number → EachFrom w ps × Top w to ps → Forest (after ps w) to end more → Forest w at end (ps ++ more)
  joined w at to end ps more h one others = (
    λ before size source.
        each_append before ps more
        (λ n i m. all_map (λ y k. k.1 n (omega arith) (omega arith)) more others.1)
        (one.0 before size source)
        (others.0 (before ++ ps) (length-append before ps ∙ ap (λ n. n + length ps) size) (source ∙ sym (source-append w.parent before ps (omega arith)))),
    all_append (Beyond w.parent w.number) ps more (top_beyond w to ps h one.1) (all_map (λ y k. (k.0, λ n i m. k.1 n i (omega arith))) more others.1),
    last-append w.parent at ps more ∙ ap (λ place. last_end w.parent place more) (top_end w at to ps h one.1) ∙ others.2,
  )

  at-forest : (n : ℕ) {at : ℕ} {r : Where → Reader (List Prototype)} {F : Where → Form (List Prototype)} (w : Where) → ((w : Where) → Exact (r w) (F w))
      → ((w : Where) (at : ℕ) → AtPlace s at (r w) (λ to ps. EachFrom w ps × Top w to ps)) → w.parent < w.number → AtPlace s at (forest n r w) (Forest w at)
  at-forest zero w exact one h = at_give (λ before size source. tt, tt, refl)
  at-forest (suc n) {at} w exact one h =
      at_then (exact w) (one w at) λ ps to top.
      at_then (exact_forest n (after ps w) exact) (at-forest n {at = to} (after ps w) exact one (omega arith)) λ more end others.
      at_give (joined w at to end ps more h top others)

  -- ### A function
  at-protos : {at : ℕ} (limit : ℕ) → AtPlace s at (protos_count limit) (λ to c. c.place ≡ to)
  at-protos limit =
      at_here λ first.
      at_then exact_number any λ protos _ _.
      at_then (exact_at_most protos limit (Prototypes first)) any λ _ _ _.
      at_here λ place.
      at_give λ p _. p

  at_head : {at : ℕ} (before : ℕ) → AtPlace s at (head L before) (λ to h. h.protos.place ≡ to)
  at_head before =
      at_then (exact_front L.max_string_bytes) any λ _ _ _.
      at_then (exact_lists L before) any λ _ _ _.
      at_then (exact_protos_count L.max_total_prototypes) (at-protos L.max_total_prototypes) λ _ _ p.
      at_give p

  put_together : (w : Where) (at start first behind end to : ℕ) (h : Head) (nested : List Prototype) (t : Tail) → start ≡ at → end ≡ to
      → Got s at (head L w.instructions) first h × (h.protos.place ≡ first) → Forest (inside w h) first behind nested → Got s behind (tail L.max_string_bytes) to t
      → EachFrom w (prototype_of w start h t end ∷ nested) × Top w to (prototype_of w start h t end ∷ nested)
  put_together w at start first behind end to h nested t from upto one others two =
      let p = prototype_of w start h t end in (
        λ before size source.
            let place : last_end (length before) h.protos.place nested ≡ behind = ap (λ k. last_end k h.protos.place nested) size ∙ ap (λ k. last_end w.number k nested) one.1 ∙ others.2 in (
              record {
                place = w;
                first = h;
                rest = t;
                is = refl;
                source = source;
                at_start = record { to = first; rest = one.0.rest; is = ap (λ at. head L 0 at (drop at s)) from ∙ (fewer_head L w.instructions at (drop at s)).holds h first one.0.rest one.0.is };
                trailing = two.rest;
                behind_nested = ap (λ at. tail L.max_string_bytes at (drop at s)) place ∙ two.is ∙ ap (λ k. ok t k two.rest) (sym upto);
              },
              others.0 (before ++ (p ∷ [])) (length-append before (p ∷ []) ∙ ap (λ n. n + 1) size) (sym (ap (λ k. source_of (before ++ (p ∷ [])) k) (sym size) ∙ source-last before p)),
            ),
        (refl, upto, all_map (λ y k. k.0) nested others.1),
      )

  -- the same of a reader that is this one
  as_parts : (left : ℕ) (w : Where) (at : ℕ) {P : ℕ → List Prototype → Type 0} → AtPlace s at (parts L (entered L left) w) P → AtPlace s at (function L left w) P
  as_parts left w at a = record { holds = λ e. a.holds (sym (by_parts s L left w at) ∙ e) }

  at_entering : (left : ℕ) (w : Where) (at : ℕ) {P : ℕ → List Prototype → Type 0} → ((to : ℕ) → AtPlace s to (function L left w) P) → AtPlace s at (entered L (suc left) w) P
  at_entering left w at inner = record { holds = λ e. (at_then (exact_at_most w.number L.max_total_prototypes (TotalPrototypes at)) any λ _ to _. inner to).holds e }

  at-parts : {r : Where → Reader (List Prototype)} {F : Where → Form (List Prototype)} → ((w : Where) → Exact (r w) (F w))
      → ((w : Where) (at : ℕ) → AtPlace s at (r w) (λ to ps. EachFrom w ps × Top w to ps)) → (w : Where) (at : ℕ) → AtPlace s at (parts L r w) (λ to ps. EachFrom w ps × Top w to ps)
  at-parts exact one w at =
      at_here λ start.
      at_then (exact_head L w.instructions) (both got (at_head w.instructions)) λ h first front.
      at_then (exact_forest h.protos.count (inside w h) exact) (at-forest h.protos.count {at = first} (inside w h) exact one (omega arith)) λ nested behind others.
      at_then (exact_tail L.max_string_bytes) got λ t to back.
      at_here λ end.
      at_give λ upto from. put_together w at start first behind end to h nested t from upto front others back

  at-function : (left : ℕ) (w : Where) (at : ℕ) → AtPlace s at (function L left w) (λ to ps. EachFrom w ps × Top w to ps)
  at-function zero w at = as_parts zero w at (at-parts (exact_entered L zero) (λ w at. at_here λ place. at-refuse) w at)
  at-function (suc left) w at = as_parts (suc left) w at (at-parts (exact_entered L (suc left)) (λ w at. at_entering left w at (λ to. at-function left w to)) w at)

  at-main : AtPlace s 0 (main L) (λ to m. Each [] m.functions)
  at-main =
      at_then exact_header any λ headed _ _.
      at_then (exact_field 1) any λ forgotten _ _.
      at_then (exact_function L L.max_nesting_depth _) (at-function L.max_nesting_depth _ _) λ functions _ h.
      at_give (h.0 [] refl refl)

  from : (o : Read Loaded) → main L 0 s ≡ o → (r : Reading) → outcome L o ≡ shown r → Each [] r.functions
  from (ok m to rest) e r p =
      let shows : reading L m to rest ≡ r = cc in
      let functions : m.functions ≡ r.functions = ap (λ r. r.functions) shows in
      rw functions at (at-main.holds e)
  from (refused q) e r p = absurd (let z : ◌≡◌ {A = ℕ} 0 1 = cc in omega arith)

  pub all_parted : (r : Reading) → read L s ≡ shown r → (k : ℕ) {p : Prototype} → get_elem? r.functions k ≡ some p → Parted L s (take k r.functions) p (drop (suc k) r.functions)
  all_parted r e k there = each_nth (Parted L s) [] r.functions (from (main L 0 s) refl r (main_complete L s r (read_sound L s r e))) k there
