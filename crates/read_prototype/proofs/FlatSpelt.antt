-- How a function is spelt is made of how its parts are, behind what these read. (`Flat.antt`: the same of the readers.)
--     HeadRan, ..      what the readers that a part is made of read
--     body-spelt       a function: its head, its own source, those that nest in it, its tail
-- Assumes nothing.
use mathlib.Core.Path.{◌≡◌, refl, sym, ◌∙◌, ap, ap₂, subst}
use mathlib.Core.List.{List}
use mathlib.Core.Option.{Option}
use Prim.Native.Nat.{ℕ, ◌+◌}
use native.Mathlib.Omega.{arith}
use lib.Dec.{leb}
use lib.ListN.{length}
use Rattle.format.specs.declared.limits.ResourceLimits.{ResourceLimits}
use Rattle.format.specs.declared.refusal.Refusal.TheVariants.{Instructions, TotalInstructions, Prototypes}
use Rattle.format.specs.Form.{Bytes}
use Rattle.format.specs.GrammarFields.{LuaString}
use Rattle.format.specs.declared.entry.UpvalueDesc.{UpvalueDesc}
use Rattle.format.specs.Reading.{ConstantValue, Prototype}
use Rattle.format.specs.GrammarChunk.{Listed, inherit, Where, within}
use Rattle.format.specs.Read.{Read, ok, refused, Reader, next, ◌>>=◌, ◌>>◌, give, here, at_most, run, many}
use Rattle.format.specs.ReadFields.{field, byte, number, string}
use Rattle.format.specs.ReadChunk as reader
use Rattle.format.specs.declared.spelling.Spelling.{Spelling}
use Rattle.format_spelling.specs.Spelling.{same, ◌⊕◌, dropping}
use Rattle.format_spelling.specs.ReadSpelling.{Count, none, plus, behind}
use Rattle.format_spelling.specs.ReadSpelling as count
use Rattle.format_spelling.proofs.Sums.{spelling_path, same_join}
use Rattle.format_spelling.proofs.Passing.{Ran, ran, Gave, gave, past, stepped, counted_none}
use Rattle.read_entry.specs.Readers.{code, line_info, protos_count}
use Rattle.read_entry.specs.Readers as entry
use Rattle.read_list.proofs.Listing.{behind_count}
use Rattle.read_prototype.specs.Front.{Front, lines, sizes, front}
use Rattle.read_prototype.specs.Parts.{HeadLists, head_lists, Head, head}
use Rattle.read_prototype.specs.Inner.Whole.{inside}
use Rattle.read_prototype.specs.PartsSpelt as spelt
use Rattle.read_prototype.proofs.HeadAnswers.{codes, constants, upvalues}

-- ## What the readers read that a part is made of
-- of a list of words its count and the words
record CodeRan (at : ℕ) (s : Bytes) (l : Listed ℕ) (to : ℕ) (rest : Bytes) : Type 0 where
  size : ℕ
  mid : ℕ
  left : Bytes
  one : number at s ≡ ok size mid left
  two : many size (field 4) mid left ≡ ok l.items to rest

code_ran : (per-proto before total : ℕ) (at : ℕ) (s : Bytes) {l : Listed ℕ} {to : ℕ} {rest : Bytes} → code per-proto before total at s ≡ ok l to rest → CodeRan at s l to rest
code_ran per-proto before total at s {l} {to} {rest} e =
    let words : ℕ → Reader (Listed ℕ) = behind_count (λ n. many n (field 4)) in
    let later : ℕ → Reader (Listed ℕ) = λ n. at_most n per-proto (Instructions at) >> (at_most (before + n) total (TotalInstructions at) >> words n) in
    let a : Ran number later at s l to rest = ran e in
    let b = past (leb (before + a.value) total) (TotalInstructions at) (words a.value) a.mid a.left (past (leb a.value per-proto) (Instructions at) (at_most (before + a.value) total (TotalInstructions at) >> words a.value) a.mid a.left a.two) in
    let c : Gave (many a.value (field 4)) (λ items. record { place = a.mid; items = items }) a.mid a.left l to rest = gave b in
    record { size = a.value; mid = a.mid; left = a.left; one = a.one; two = c.one ∙ ap (λ xs. ok xs to rest) (ap (λ l. l.items) c.is) }

protos_ran : (limit at : ℕ) (s : Bytes) {c : entry.Count} {to : ℕ} {rest : Bytes} → protos_count limit at s ≡ ok c to rest → number at s ≡ ok c.count to rest
protos_ran limit at s {c} {to} {rest} e =
    let placed : ℕ → Reader entry.Count = λ n. here >>= λ place. give (record { count = n; place = place }) in
    let a : Ran number (λ n. at_most n limit (Prototypes at) >> placed n) at s c to rest = ran e in
    let b : ok (record { count = a.value; place = a.mid }) a.mid a.left ≡ ok c to rest = past (leb a.value limit) (Prototypes at) (placed a.value) a.mid a.left a.two in
    let n : record { count = a.value; place = a.mid } ≡ c = cc in
    let m : a.mid ≡ to = cc in
    let t : a.left ≡ rest = cc in
    a.one ∙ (λ i. ok (n i).count (m i) (t i))

-- ## The parts, before what stands behind them
module _ (limit : ℕ) (w : Where) (at : ℕ) (s : Bytes) {f : Front} {to : ℕ} {rest : Bytes} (e : front limit at s ≡ ok f to rest) (later : Option LuaString → Count) where
  front-sum : (a b c d e : Spelling) → (a ⊕ b) ⊕ (c ⊕ (d ⊕ (same ⊕ (same ⊕ (same ⊕ e))))) ≡ (a ⊕ (c ⊕ d)) ⊕ b ⊕ e
  front-sum a b c d e = spelling_path _ _ (omega arith) (omega arith) (omega arith) (omega arith)

  front-spelt : (
      plus (string limit) (count.source limit w) λ spelt.
      plus number count.number λ line_defined.
      plus number count.number λ last_line_defined.
      plus byte none λ numparams.
      plus byte none λ is_vararg.
      plus byte none λ maxstacksize.
      later spelt) at s ≡ spelt.front limit at s ⊕ dropping w f.source ⊕ later f.source to rest
  front-spelt =
      let a : Ran (string limit) (λ source. lines >>= λ between. sizes >>= λ three. give (record { source = source; lines = between; sizes = three })) at s f to rest = ran e in
      let b : Ran lines (λ between. sizes >>= λ three. give (record { source = a.value; lines = between; sizes = three })) a.mid a.left f to rest = ran a.two in
      let c : Gave sizes (λ three. record { source = a.value; lines = b.value; sizes = three }) b.mid b.left f to rest = gave b.two in
      let l₁ : Ran number (λ x. number >>= λ y. give (record { line_defined = x; last_line_defined = y })) a.mid a.left b.value b.mid b.left = ran b.one in
      let l₂ : Gave number (λ y. record { line_defined = l₁.value; last_line_defined = y }) l₁.mid l₁.left b.value b.mid b.left = gave l₁.two in
      let s₁ : Ran byte (λ x. byte >>= λ y. byte >>= λ z. give (record { numparams = x; is_vararg = y; maxstacksize = z })) b.mid b.left c.value to rest = ran c.one in
      let s₂ : Ran byte (λ y. byte >>= λ z. give (record { numparams = s₁.value; is_vararg = y; maxstacksize = z })) s₁.mid s₁.left c.value to rest = ran s₁.two in
      let s₃ : Gave byte (λ z. record { numparams = s₁.value; is_vararg = s₂.value; maxstacksize = z }) s₂.mid s₂.left c.value to rest = gave s₂.two in
      let source : f.source ≡ a.value = sym (ap (λ f. f.source) c.is) in
      rw (source, a.one, l₁.one, l₂.one, s₁.one, s₂.one, s₃.one) (front-sum (count.string at s) (dropping w a.value) (count.number a.mid a.left) (count.number l₁.mid l₁.left) (later a.value to rest))

module _ (L : ResourceLimits) (before at : ℕ) (s : Bytes) {l : HeadLists} {to : ℕ} {rest : Bytes} (e : head_lists L before at s ≡ ok l to rest) (later : List ℕ → Count) where
  abbrev spelt-constants : Count
  spelt-constants = count.counted (reader.constant L.max_string_bytes) (count.constant L.max_string_bytes)

  lists-sum : (a b c d : Spelling) → a ⊕ (same ⊕ (b ⊕ (c ⊕ d))) ≡ (a ⊕ (b ⊕ c)) ⊕ d
  lists-sum a b c d = spelling_path _ _ (omega arith) (omega arith) (omega arith) (omega arith)

  abbrev from-code : Count
  from-code =
      plus number count.number λ size.
      plus (many size (field 4)) none λ instructions.
      plus (constants L) spelt-constants λ constants.
      plus (upvalues L) (count.counted reader.upvalue none) λ upvalues.
      later instructions

  lists_steps : {n a₁ : ℕ} {s₁ : Bytes} {xs : List ℕ} {a₂ : ℕ} {s₂ : Bytes} {k : Listed ConstantValue} {a₃ : ℕ} {s₃ : Bytes} {u : Listed UpvalueDesc} {a₄ : ℕ} {s₄ : Bytes}
      → number at s ≡ ok n a₁ s₁ → many n (field 4) a₁ s₁ ≡ ok xs a₂ s₂ → constants L a₂ s₂ ≡ ok k a₃ s₃ → upvalues L a₃ s₃ ≡ ok u a₄ s₄
      → from-code at s ≡ count.number at s ⊕ (same ⊕ (spelt-constants a₂ s₂ ⊕ (count.counted reader.upvalue none a₃ s₃ ⊕ later xs a₄ s₄)))
  lists_steps one two three four = rw (one, two, three, four)

  lists-count : {i : Listed ℕ} {a₂ : ℕ} {s₂ : Bytes} {k : Listed ConstantValue} {a₃ : ℕ} {s₃ : Bytes} → codes L before at s ≡ ok i a₂ s₂ → constants L a₂ s₂ ≡ ok k a₃ s₃
      → spelt.head_lists L before at s ≡ count.number at s ⊕ (spelt-constants a₂ s₂ ⊕ count.number a₃ s₃)
  lists-count one two = rw (one, two)

  lists-spelt : from-code at s ≡ spelt.head_lists L before at s ⊕ later l.instructions.items to rest
  lists-spelt =
      let a : Ran (codes L before) (λ i. constants L >>= λ k. upvalues L >>= λ u. give (record { instructions = i; constants = k; upvalues = u })) at s l to rest = ran e in
      let b : Ran (constants L) (λ k. upvalues L >>= λ u. give (record { instructions = a.value; constants = k; upvalues = u })) a.mid a.left l to rest = ran a.two in
      let c : Gave (upvalues L) (λ u. record { instructions = a.value; constants = b.value; upvalues = u }) b.mid b.left l to rest = gave b.two in
      let words = code_ran L.max_instructions_per_proto before L.max_total_instructions at s a.one in
      let same_code : a.value.items ≡ l.instructions.items = ap (λ l. l.instructions.items) c.is in
      lists_steps words.one words.two b.one c.one
      ∙ ap (λ n. count.number at s ⊕ (same ⊕ (spelt-constants a.mid a.left ⊕ (n ⊕ later a.value.items to rest)))) (counted_none reader.upvalue b.mid b.left)
      ∙ lists-sum (count.number at s) (spelt-constants a.mid a.left) (count.number b.mid b.left) (later a.value.items to rest)
      ∙ ap₂ (λ n xs. n ⊕ later xs to rest) (sym (lists-count a.one b.one)) same_code

-- behind the nested functions nothing is refused for a limit of its own
module _ (limit : ℕ) (at : ℕ) (s : Bytes) (later : Count) where
  deltas_spelt : (plus number count.number λ size. plus (run size) none λ deltas. later) at s ≡ plus line_info count.number (λ l. later) at s
  deltas_spelt = ap (λ a. count.number at s ⊕ a) (by (number at s))
    where
      listed : (place : ℕ) (o : Read Bytes) → same ⊕ behind o (λ deltas. later) ≡ behind {A = Listed ℕ} (next o (λ items. give (record { place = place; items = items }))) (λ l. later)
      listed place (ok xs to rest) = same_join (later to rest)
      listed place (refused q) = refl

      by : (o : Read ℕ) → behind o (λ size. plus (run size) none λ deltas. later) ≡ behind (next o (behind_count run)) (λ l. later)
      by (ok n to rest) = listed to (run n to rest)
      by (refused q) = refl

-- ## A function
body-sum : (a b c d e f : Spelling) → a ⊕ b ⊕ (c ⊕ (d ⊕ (e ⊕ f))) ≡ a ⊕ (c ⊕ d) ⊕ b ⊕ (e ⊕ f)
body-sum a b c d e f = spelling_path _ _ (omega arith) (omega arith) (omega arith) (omega arith)

module _ (L : ResourceLimits) (r : Where → Reader (List Prototype)) (c : Where → Count) (w : Where) where
  abbrev counts : Reader entry.Count
  counts = protos_count L.max_total_prototypes

  abbrev tail-lists : Count
  tail-lists =
      plus (reader.counted reader.anchor) (count.counted reader.anchor count.anchor) λ abs_line_info.
      plus (reader.counted (reader.local L.max_string_bytes)) (count.counted (reader.local L.max_string_bytes) (count.local L.max_string_bytes)) λ loc_vars.
      count.counted (string L.max_string_bytes) count.string

  abbrev from_deltas : Count
  from_deltas = plus number count.number λ line-info-size. plus (run line-info-size) none λ line_info_lem. tail-lists

  abbrev from_nested : Option LuaString → List ℕ → ℕ → Count
  from_nested spelt instructions protos =
      plus (reader.forest protos r (within w (inherit spelt w.source) (length instructions))) (count.forest protos r c (within w (inherit spelt w.source) (length instructions))) λ nested. from_deltas

  -- what a function's head and nested functions give, whose parts are f, l and p
  module _ (at : ℕ) (s : Bytes) {f : Front} {l : HeadLists} {p : entry.Count} {a₁ a₂ to₁ : ℕ} {s₁ s₂ rest₁ : Bytes} (one : front L.max_string_bytes at s ≡ ok f a₁ s₁)
      (two : head_lists L w.instructions a₁ s₁ ≡ ok l a₂ s₂) (three : counts a₂ s₂ ≡ ok p to₁ rest₁) where
    head-count : spelt.head L w.instructions at s ≡ spelt.front L.max_string_bytes at s ⊕ (spelt.head_lists L w.instructions a₁ s₁ ⊕ count.number a₂ s₂)
    head-count =
        stepped (front L.max_string_bytes) (spelt.front L.max_string_bytes) (λ _. plus (head_lists L w.instructions) (spelt.head_lists L w.instructions) λ _. count.number) at s one
        ∙ ap (λ n. spelt.front L.max_string_bytes at s ⊕ n) (stepped (head_lists L w.instructions) (spelt.head_lists L w.instructions) (λ _. count.number) a₁ s₁ two)

    abbrev its_head : Head
    its_head = record { front = f; lists = l; protos = p }

    body_steps : {ps : List Prototype} {to₂ : ℕ} {rest₂ : Bytes} → reader.forest p.count r (inside w its_head) to₁ rest₁ ≡ ok ps to₂ rest₂
        → count.body L r c w at s ≡ spelt.head L w.instructions at s ⊕ dropping w f.source ⊕ (count.forest p.count r c (inside w its_head) to₁ rest₁ ⊕ spelt.tail L.max_string_bytes to₂ rest₂)
    unfolding count.body
    body_steps {to₂} {rest₂} four =
        let limit = L.max_string_bytes in
        let begins = spelt.front limit at s in
        let own = dropping w f.source in
        let lists = spelt.head_lists L w.instructions a₁ s₁ in
        let nested = count.forest p.count r c (inside w its_head) to₁ rest₁ in
        front-spelt limit w at s one _
        ∙ ap (λ n. begins ⊕ own ⊕ n) (lists-spelt L w.instructions a₁ s₁ two _
        ∙ ap (λ n. lists ⊕ n) (stepped number count.number (from_nested f.source l.instructions.items) a₂ s₂ (protos_ran L.max_total_prototypes a₂ s₂ three)
        ∙ ap (λ n. count.number a₂ s₂ ⊕ n) (stepped (reader.forest p.count r (inside w its_head)) (count.forest p.count r c (inside w its_head)) (λ _. from_deltas) to₁ rest₁ four
        ∙ ap (λ n. nested ⊕ n) (deltas_spelt limit to₂ rest₂ tail-lists))))
        ∙ body-sum begins own lists (count.number a₂ s₂) nested (spelt.tail limit to₂ rest₂)
        ∙ ap (λ n. n ⊕ own ⊕ (nested ⊕ spelt.tail limit to₂ rest₂)) (sym head-count)

  pub body-spelt : (at : ℕ) (s : Bytes) {h : Head} {to₁ : ℕ} {rest₁ : Bytes} → head L w.instructions at s ≡ ok h to₁ rest₁ → {ps : List Prototype} {to₂ : ℕ} {rest₂ : Bytes} → reader.forest h.protos.count r (inside w h) to₁ rest₁ ≡ ok ps to₂ rest₂
      → count.body L r c w at s ≡ spelt.head L w.instructions at s ⊕ dropping w h.front.source ⊕ (count.forest h.protos.count r c (inside w h) to₁ rest₁ ⊕ spelt.tail L.max_string_bytes to₂ rest₂)
  body-spelt at s {h} {to₁} {rest₁} e {ps} {to₂} {rest₂} four =
      let a : Ran (front L.max_string_bytes) (λ f. head_lists L w.instructions >>= λ l. counts >>= λ p. give (record { front = f; lists = l; protos = p })) at s h to₁ rest₁ = ran e in
      let b : Ran (head_lists L w.instructions) (λ l. counts >>= λ p. give (record { front = a.value; lists = l; protos = p })) a.mid a.left h to₁ rest₁ = ran a.two in
      let p : Gave counts (λ p. record { front = a.value; lists = b.value; protos = p }) b.mid b.left h to₁ rest₁ = gave b.two in
      subst
      (λ h. reader.forest h.protos.count r (inside w h) to₁ rest₁ ≡ ok ps to₂ rest₂
      → count.body L r c w at s ≡ spelt.head L w.instructions at s ⊕ dropping w h.front.source ⊕ (count.forest h.protos.count r c (inside w h) to₁ rest₁ ⊕ spelt.tail L.max_string_bytes to₂ rest₂))
      p.is (body_steps at s a.one b.one p.one) four
