-- The answers of `read_head_lists`, `read_head` and `read_tail`, in the code's terms: by what the calls showed.
--     Ended, ..-room   there is room behind a part that was read
--     ..-add           what the parts add, the whole adds
-- Assumes nothing.
use Rattle.std.specs.Prelude.{Result, Ok, Err}
use Rattle.read_list.specs.declared.ListAt.{ListAt}
use mathlib.Core.Path.{◌≡◌, sym, ◌∙◌, ap, ap₂}
use mathlib.Core.List.{List}
use mathlib.Core.Option.{Option}
use Prim.Native.Nat.{ℕ}
use native.Mathlib.Omega.{arith}
use lib.ListN.{drop}
use Rattle.format.specs.declared.limits.ResourceLimits.{ResourceLimits}
use Rattle.format.specs.declared.refusal.Refusal.{Refusal}
use Rattle.format.specs.declared.refusal.Refusal.TheVariants.{Constants, Upvalues}
use Rattle.format.specs.declared.entry.AbsLineInfo.{AbsLineInfo}
use Rattle.format.specs.Form.{Bytes, Form, Then, Is}
use Rattle.format.specs.GrammarFields.{LuaString}
use Rattle.format.specs.declared.entry.UpvalueDesc.{UpvalueDesc}
use Rattle.format.specs.Reading.{ConstantValue, LocalVar}
use Rattle.format.specs.GrammarChunk.{Listed, CountedUpTo, Constant, Upvalue}
use Rattle.format.specs.Read.{Read, ok, refused, Reader}
use Rattle.format.specs.ReadFields.{string}
use Rattle.format.specs.ReadChunk.{counted, counted_up_to, constant, upvalue, anchor, local}
use Rattle.format.proofs.Exact.{Exact, exact_then, exact_give}
use Rattle.format.proofs.ExactFields.{exact_string}
use Rattle.format.proofs.ExactChunk.{exact_counted, exact_counted_up_to, exact_constant, exact_upvalue, exact_anchor, exact_local}
use Rattle.format_spelling.specs.ReadSpelling as count
use Rattle.format_spelling.specs.Inner.Tally.{Room, Adds}
use Rattle.format_spelling.proofs.Covers.{Covers}
use Rattle.format_spelling.proofs.Tallies.{room-on, adds-value}
use Rattle.slice.specs.declared.cursor.Cursor.{Cursor}
use Rattle.slice.specs.Shown.{cursor_at}
use Rattle.read_field.proofs.Shows.{Showed, onward, shown_as_err, shown_as_ok}
use Rattle.read_entry.specs.Readers.{Count, protos_count, code, line_info}
use Rattle.read_list.specs.Inner.Shown.{list_result, count_result}
use Rattle.read_list.proofs.Listing.{list_err, list_ok}
use Rattle.read_list.proofs.Counts.{count_err, count-ok}
use Rattle.read_list.proofs.Within.{Code, exact_line_info, exact_code, exact_protos_count}
use Rattle.read_prototype.specs.declared.front.Front as declared-front
use Rattle.read_prototype.specs.declared.parts.HeadLists as declared-lists
use Rattle.read_prototype.specs.declared.parts.Tail as declared-tail
use Rattle.read_prototype.specs.Front.{Front, front}
use Rattle.read_prototype.specs.Inner.Results.{front_result}
use Rattle.read_prototype.specs.Parts.{HeadLists, head_lists, Head, head, Tail, tail}
use Rattle.read_prototype.specs.PartsShown.{front_of, lists_of, head_of, tail_of, head_lists_result, head_result, tail_result}
use Rattle.read_prototype.specs.PartsSpelt as spelt
use Rattle.read_prototype.proofs.On.{taken, stopped, adds_taken}
use Rattle.read_prototype.proofs.CoversParts.{covers_front, covers_lists}
use Rattle.read_prototype.proofs.FrontAnswers.{front_err, exact_front}

-- three lists, by count and place
abbrev three : ℕ → ℕ → ℕ → ℕ → ℕ → ℕ → declared-lists.HeadLists
three a b c d e f = record { instructions = record { count = a; place = b }; constants = record { count = c; place = d }; upvalues = record { count = e; place = f } }

three_path : {a b c d e f a' b' c' d' e' f' : ℕ} → a ≡ a' → b ≡ b' → c ≡ c' → d ≡ d' → e ≡ e' → f ≡ f' → three a b c d e f ≡ three a' b' c' d' e' f'
three_path p q r s t u = λ i. three (p i) (q i) (r i) (s i) (t i) (u i)

-- a list that was read, with the rest of the slice
list_on : {A : Type 0} {r : Reader (Listed A)} {F : Form (Listed A)} → Exact r F → (s : Bytes) (at count place : ℕ) (c : Cursor) (e : Ok ((record { count = count; place = place }), c) ≡ list_result (r at (drop at s)))
    → r at (drop at s) ≡ ok (list_ok (r at (drop at s)) count place c e).value c.at (drop c.at s)
list_on {r} exact s at count place c e = onward exact s at (list_ok (r at (drop at s)) count place c e).was

-- a list that was passed over: what was shown of it, what it added, and that there is room behind it
pub record Ended {A : Type 0} (r : Reader (Listed A)) (k : count.Count) (s : Bytes) (at : ℕ) (t : List ℕ) (l : ListAt) (c : Cursor) (t' : List ℕ) : Type 0 where
  pub shown : Ok (l, c) ≡ list_result (r at (drop at s))
  pub adds : Adds (r at (drop at s)) (k at (drop at s)) t t'
  pub room : Room t' c.at

pub ended : {A : Type 0} {r : Reader (Listed A)} {k : count.Count} → Covers r k → (s : Bytes) (at : ℕ) {t t' : List ℕ} {l : ListAt} {c : Cursor} {x : Result (ListAt × Cursor) Refusal} → x ≡ Ok (l, c)
    → (x ≡ list_result (r at (drop at s))) × Adds (r at (drop at s)) (k at (drop at s)) t t' → Room t at → Ended r k s at t l c t'
ended {r} covers s at {l = l} {c = c} told (e, adds) room =
    let shown : Ok (l, c) ≡ list_result (r at (drop at s)) = sym told ∙ e in
    record { shown = shown; adds = adds; room = room-on covers at (drop at s) room (list_ok (r at (drop at s)) l.count l.place c shown).was.is adds }

-- ## The lists before the nested functions
abbrev pub codes : ResourceLimits → ℕ → Reader (Listed ℕ)
codes L before = code L.max_instructions_per_proto before L.max_total_instructions

abbrev pub constants : ResourceLimits → Reader (Listed ConstantValue)
constants L = counted_up_to L.max_constants_per_proto Constants (constant L.max_string_bytes)

abbrev pub upvalues : ResourceLimits → Reader (Listed UpvalueDesc)
upvalues L = counted_up_to L.max_upvalues_per_proto Upvalues upvalue

module _ (s : Bytes) (L : ResourceLimits) (before at : ℕ) where
  pub code-refused : (q : Refusal) → Err q ≡ list_result (codes L before at (drop at s)) → Err q ≡ head_lists_result (head_lists L before at (drop at s))
  code-refused q e = sym (ap head_lists_result (stopped _ (list_err (codes L before at (drop at s)) q e)))

  module _ (n₁ p₁ : ℕ) (c₁ : Cursor) (e₁ : Ok ((record { count = n₁; place = p₁ }), c₁) ≡ list_result (codes L before at (drop at s))) where
    code-on : codes L before at (drop at s) ≡ ok (list_ok (codes L before at (drop at s)) n₁ p₁ c₁ e₁).value c₁.at (drop c₁.at s)
    code-on = list_on (exact_code L.max_instructions_per_proto before L.max_total_instructions) s at n₁ p₁ c₁ e₁

    pub constants-refused : (q : Refusal) → Err q ≡ list_result (constants L c₁.at (drop c₁.at s)) → Err q ≡ head_lists_result (head_lists L before at (drop at s))
    constants-refused q e = sym (ap head_lists_result (taken _ code-on ∙ stopped _ (list_err (constants L c₁.at (drop c₁.at s)) q e)))

    module _ (n₂ p₂ : ℕ) (c₂ : Cursor) (e₂ : Ok ((record { count = n₂; place = p₂ }), c₂) ≡ list_result (constants L c₁.at (drop c₁.at s))) where
      constants-on : constants L c₁.at (drop c₁.at s) ≡ ok (list_ok (constants L c₁.at (drop c₁.at s)) n₂ p₂ c₂ e₂).value c₂.at (drop c₂.at s)
      constants-on = list_on (exact_counted_up_to L.max_constants_per_proto Constants (exact_constant L.max_string_bytes)) s c₁.at n₂ p₂ c₂ e₂

      pub upvalues-refused : (q : Refusal) → Err q ≡ list_result (upvalues L c₂.at (drop c₂.at s)) → Err q ≡ head_lists_result (head_lists L before at (drop at s))
      upvalues-refused q e = sym (ap head_lists_result (taken _ code-on ∙ taken _ constants-on ∙ stopped _ (list_err (upvalues L c₂.at (drop c₂.at s)) q e)))

      module _ (n₃ p₃ : ℕ) (c₃ : Cursor) (e₃ : Ok ((record { count = n₃; place = p₃ }), c₃) ≡ list_result (upvalues L c₂.at (drop c₂.at s))) where
        upvalues-on : upvalues L c₂.at (drop c₂.at s) ≡ ok (list_ok (upvalues L c₂.at (drop c₂.at s)) n₃ p₃ c₃ e₃).value c₃.at (drop c₃.at s)
        upvalues-on = list_on (exact_counted_up_to L.max_upvalues_per_proto Upvalues exact_upvalue) s c₂.at n₃ p₃ c₃ e₃

        pub all-lists : Ok (
          (record {
            instructions = record { count = n₁; place = p₁ };
            constants = record { count = n₂; place = p₂ };
            upvalues = record { count = n₃; place = p₃ };
          }),
          c₃,
        ) ≡ head_lists_result (head_lists L before at (drop at s))
        all-lists =
            let a = list_ok (codes L before at (drop at s)) n₁ p₁ c₁ e₁ in
            let b = list_ok (constants L c₁.at (drop c₁.at s)) n₂ p₂ c₂ e₂ in
            let c = list_ok (upvalues L c₂.at (drop c₂.at s)) n₃ p₃ c₃ e₃ in
            let shows : three n₁ p₁ n₂ p₂ n₃ p₃ ≡ lists_of (record { instructions = a.value; constants = b.value; upvalues = c.value })
            = three_path a.counted a.placed b.counted b.placed c.counted c.placed in
            ap (λ l. Ok (l, c₃)) shows ∙ sym (ap head_lists_result (taken _ code-on ∙ taken _ constants-on ∙ taken _ upvalues-on))

      pub lists-add : {t t₁ t₂ t₃ : List ℕ} → Adds (codes L before at (drop at s)) (count.number at (drop at s)) t t₁
          → Adds (constants L c₁.at (drop c₁.at s)) (count.counted (constant L.max_string_bytes) (count.constant L.max_string_bytes) c₁.at (drop c₁.at s)) t₁ t₂
          → Adds (upvalues L c₂.at (drop c₂.at s)) (count.number c₂.at (drop c₂.at s)) t₂ t₃
          → Adds (head_lists L before at (drop at s)) (spelt.head_lists L before at (drop at s)) t t₃
      lists-add one two three = adds_taken _ _ code-on one (adds_taken _ _ constants-on two (adds-value _ _ three))

-- ## The head
front-ok : (o : Read Front) (f : declared-front.Front) (c : Cursor) → Ok (f, c) ≡ front_result o → Showed front_of o f c.at
front-ok = shown_as_ok front_of

pub lists_err : (o : Read HeadLists) (q : Refusal) → Err q ≡ head_lists_result o → o ≡ refused q
lists_err = shown_as_err lists_of

lists-ok : (o : Read HeadLists) (l : declared-lists.HeadLists) (c : Cursor) → Ok (l, c) ≡ head_lists_result o → Showed lists_of o l c.at
lists-ok = shown_as_ok lists_of

-- the lists read exactly a form
abbrev pub ListsForm : ResourceLimits → ℕ → Form HeadLists
ListsForm L before =
    Then (Code L.max_instructions_per_proto before L.max_total_instructions) λ instructions.
    Then (CountedUpTo L.max_constants_per_proto (Constant L.max_string_bytes)) λ constants.
    Then (CountedUpTo L.max_upvalues_per_proto Upvalue) λ upvalues.
    Is (record { instructions = instructions; constants = constants; upvalues = upvalues })

pub exact_lists : (L : ResourceLimits) (before : ℕ) → Exact (head_lists L before) (ListsForm L before)
exact_lists L before =
    exact_then (exact_code L.max_instructions_per_proto before L.max_total_instructions) λ _.
    exact_then (exact_counted_up_to L.max_constants_per_proto Constants (exact_constant L.max_string_bytes)) λ _.
    exact_then (exact_counted_up_to L.max_upvalues_per_proto Upvalues exact_upvalue) λ _.
    exact_give _

module _ (s : Bytes) (L : ResourceLimits) (before at : ℕ) where
  abbrev fronts : Reader Front
  fronts = front L.max_string_bytes

  abbrev counts : Reader Count
  counts = protos_count L.max_total_prototypes

  pub front-refused : (q : Refusal) → Err q ≡ front_result (fronts at (drop at s)) → Err q ≡ head_result (head L before at (drop at s))
  front-refused q e = sym (ap head_result (stopped _ (front_err (fronts at (drop at s)) q e)))

  module _ (f : declared-front.Front) (c₁ : Cursor) (e₁ : Ok (f, c₁) ≡ front_result (fronts at (drop at s))) where
    fronted : Showed front_of (fronts at (drop at s)) f c₁.at
    fronted = front-ok (fronts at (drop at s)) f c₁ e₁

    front-on : fronts at (drop at s) ≡ ok fronted.value c₁.at (drop c₁.at s)
    front-on = onward (exact_front L.max_string_bytes) s at fronted.was

    pub front-room : {t t₁ : List ℕ} → Room t at → Adds (fronts at (drop at s)) (spelt.front L.max_string_bytes at (drop at s)) t t₁ → Room t₁ c₁.at
    front-room room = room-on (covers_front L.max_string_bytes) at (drop at s) room front-on

    pub lists-refused : (q : Refusal) → Err q ≡ head_lists_result (head_lists L before c₁.at (drop c₁.at s)) → Err q ≡ head_result (head L before at (drop at s))
    lists-refused q e = sym (ap head_result (taken _ front-on ∙ stopped _ (lists_err (head_lists L before c₁.at (drop c₁.at s)) q e)))

    module _ (l : declared-lists.HeadLists) (c₂ : Cursor) (e₂ : Ok (l, c₂) ≡ head_lists_result (head_lists L before c₁.at (drop c₁.at s))) where
      listed : Showed lists_of (head_lists L before c₁.at (drop c₁.at s)) l c₂.at
      listed = lists-ok (head_lists L before c₁.at (drop c₁.at s)) l c₂ e₂

      lists-on : head_lists L before c₁.at (drop c₁.at s) ≡ ok listed.value c₂.at (drop c₂.at s)
      lists-on = onward (exact_lists L before) s c₁.at listed.was

      pub lists-room : {t t₁ : List ℕ} → Room t c₁.at → Adds (head_lists L before c₁.at (drop c₁.at s)) (spelt.head_lists L before c₁.at (drop c₁.at s)) t t₁ → Room t₁ c₂.at
      lists-room room = room-on (covers_lists L before) c₁.at (drop c₁.at s) room lists-on

      pub head-add : {t t₁ t₂ t₃ : List ℕ} → Adds (fronts at (drop at s)) (spelt.front L.max_string_bytes at (drop at s)) t t₁
          → Adds (head_lists L before c₁.at (drop c₁.at s)) (spelt.head_lists L before c₁.at (drop c₁.at s)) t₁ t₂ → Adds (counts c₂.at (drop c₂.at s)) (count.number c₂.at (drop c₂.at s)) t₂ t₃
          → Adds (head L before at (drop at s)) (spelt.head L before at (drop at s)) t t₃
      head-add one two three = adds_taken _ _ front-on one (adds_taken _ _ lists-on two (adds-value _ _ three))

      pub protos-refused : (q : Refusal) → Err q ≡ count_result (counts c₂.at (drop c₂.at s)) → Err q ≡ head_result (head L before at (drop at s))
      protos-refused q e = sym (ap head_result (taken _ front-on ∙ taken _ lists-on ∙ stopped _ (count_err (counts c₂.at (drop c₂.at s)) q e)))

      pub whole-head : (n p : ℕ) (c₃ : Cursor) → Ok ((record { count = n; place = p }), c₃) ≡ count_result (counts c₂.at (drop c₂.at s))
          → Ok ((record { front = f; lists = l; protos = record { count = n; place = p } }), c₃) ≡ head_result (head L before at (drop at s))
      whole-head n p c₃ e =
          let c = onward (exact_protos_count L.max_total_prototypes) s c₂.at (count-ok (counts c₂.at (drop c₂.at s)) n p c₃ e) in
          ap₂ (λ x y. Ok ((record { front = x; lists = y; protos = record { count = n; place = p } }), c₃)) fronted.shows listed.shows
          ∙ sym (ap head_result (taken _ front-on ∙ taken _ lists-on ∙ taken _ c))

pub head_err : (o : Read Head) (q : Refusal) → Err q ≡ head_result o → o ≡ refused q
head_err = shown_as_err head_of

-- ## The tail
pub tail_err : (o : Read Tail) (q : Refusal) → Err q ≡ tail_result o → o ≡ refused q
tail_err = shown_as_err tail_of

abbrev four : ℕ → ℕ → ℕ → ℕ → ℕ → ℕ → ℕ → ℕ → declared-tail.Tail
four a b c d e f g h = record {
  line_info = record { count = a; place = b };
  abs_line_info = record { count = c; place = d };
  loc_vars = record { count = e; place = f };
  upvalue_names = record { count = g; place = h };
}

four_path : {a b c d e f g h a' b' c' d' e' f' g' h' : ℕ} → a ≡ a' → b ≡ b' → c ≡ c' → d ≡ d' → e ≡ e' → f ≡ f' → g ≡ g' → h ≡ h' → four a b c d e f g h ≡ four a' b' c' d' e' f' g' h'
four_path p q r s t u v w = λ i. four (p i) (q i) (r i) (s i) (t i) (u i) (v i) (w i)

abbrev pub anchors : Reader (Listed AbsLineInfo)
anchors = counted anchor

abbrev pub locals : ℕ → Reader (Listed LocalVar)
locals limit = counted (local limit)

abbrev pub names : ℕ → Reader (Listed (Option LuaString))
names limit = counted (string limit)

module _ (s : Bytes) (limit at : ℕ) where
  pub deltas_refused : (q : Refusal) → Err q ≡ list_result (line_info at (drop at s)) → Err q ≡ tail_result (tail limit at (drop at s))
  deltas_refused q e = sym (ap tail_result (stopped _ (list_err (line_info at (drop at s)) q e)))

  module _ (n₁ p₁ : ℕ) (c₁ : Cursor) (e₁ : Ok ((record { count = n₁; place = p₁ }), c₁) ≡ list_result (line_info at (drop at s))) where
    deltas_on : line_info at (drop at s) ≡ ok (list_ok (line_info at (drop at s)) n₁ p₁ c₁ e₁).value c₁.at (drop c₁.at s)
    deltas_on = list_on exact_line_info s at n₁ p₁ c₁ e₁

    pub anchors_refused : (q : Refusal) → Err q ≡ list_result (anchors c₁.at (drop c₁.at s)) → Err q ≡ tail_result (tail limit at (drop at s))
    anchors_refused q e = sym (ap tail_result (taken _ deltas_on ∙ stopped _ (list_err (anchors c₁.at (drop c₁.at s)) q e)))

    module _ (n₂ p₂ : ℕ) (c₂ : Cursor) (e₂ : Ok ((record { count = n₂; place = p₂ }), c₂) ≡ list_result (anchors c₁.at (drop c₁.at s))) where
      anchors_on : anchors c₁.at (drop c₁.at s) ≡ ok (list_ok (anchors c₁.at (drop c₁.at s)) n₂ p₂ c₂ e₂).value c₂.at (drop c₂.at s)
      anchors_on = list_on (exact_counted exact_anchor) s c₁.at n₂ p₂ c₂ e₂

      pub locals_refused : (q : Refusal) → Err q ≡ list_result (locals limit c₂.at (drop c₂.at s)) → Err q ≡ tail_result (tail limit at (drop at s))
      locals_refused q e = sym (ap tail_result (taken _ deltas_on ∙ taken _ anchors_on ∙ stopped _ (list_err (locals limit c₂.at (drop c₂.at s)) q e)))

      module _ (n₃ p₃ : ℕ) (c₃ : Cursor) (e₃ : Ok ((record { count = n₃; place = p₃ }), c₃) ≡ list_result (locals limit c₂.at (drop c₂.at s))) where
        locals_on : locals limit c₂.at (drop c₂.at s) ≡ ok (list_ok (locals limit c₂.at (drop c₂.at s)) n₃ p₃ c₃ e₃).value c₃.at (drop c₃.at s)
        locals_on = list_on (exact_counted (exact_local limit)) s c₂.at n₃ p₃ c₃ e₃

        pub names_refused : (q : Refusal) → Err q ≡ list_result (names limit c₃.at (drop c₃.at s)) → Err q ≡ tail_result (tail limit at (drop at s))
        names_refused q e = sym (ap tail_result (taken _ deltas_on ∙ taken _ anchors_on ∙ taken _ locals_on ∙ stopped _ (list_err (names limit c₃.at (drop c₃.at s)) q e)))

        pub whole-tail : (n₄ p₄ : ℕ) (c₄ : Cursor) → Ok ((record { count = n₄; place = p₄ }), c₄) ≡ list_result (names limit c₃.at (drop c₃.at s)) → Ok ((four n₁ p₁ n₂ p₂ n₃ p₃ n₄ p₄), c₄) ≡ tail_result (tail limit at (drop at s))
        whole-tail n₄ p₄ c₄ e₄ =
            let a = list_ok (line_info at (drop at s)) n₁ p₁ c₁ e₁ in
            let b = list_ok (anchors c₁.at (drop c₁.at s)) n₂ p₂ c₂ e₂ in
            let c = list_ok (locals limit c₂.at (drop c₂.at s)) n₃ p₃ c₃ e₃ in
            let d = list_ok (names limit c₃.at (drop c₃.at s)) n₄ p₄ c₄ e₄ in
            ap (λ t. Ok (t, c₄)) (four_path a.counted a.placed b.counted b.placed c.counted c.placed d.counted d.placed)
            ∙ sym (ap tail_result (taken _ deltas_on ∙ taken _ anchors_on ∙ taken _ locals_on ∙ taken _ (list_on (exact_counted (exact_string limit)) s c₃.at n₄ p₄ c₄ e₄)))

        pub tail-add : {t t₁ t₂ t₃ t₄ : List ℕ} → Adds (line_info at (drop at s)) (count.number at (drop at s)) t t₁ → Adds (anchors c₁.at (drop c₁.at s)) (count.counted anchor count.anchor c₁.at (drop c₁.at s)) t₁ t₂
            → Adds (locals limit c₂.at (drop c₂.at s)) (count.counted (local limit) (count.local limit) c₂.at (drop c₂.at s)) t₂ t₃
            → Adds (names limit c₃.at (drop c₃.at s)) (count.counted (string limit) count.string c₃.at (drop c₃.at s)) t₃ t₄
            → Adds (tail limit at (drop at s)) (spelt.tail limit at (drop at s)) t t₄
        tail-add one two three four = adds_taken _ _ deltas_on one (adds_taken _ _ anchors_on two (adds_taken _ _ locals_on three (adds-value _ _ four)))
