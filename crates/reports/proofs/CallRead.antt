-- REPORT READ: what the report call writes, the reader takes, with its total, its index and its parameters. Assumes nothing.
use Prim.Native.Nat.{ℕ, suc, ◌+◌, ◌-◌, ◌≤◌, ◌<◌}
use mathlib.Core.Path.{◌≡◌, refl, sym, ap, ◌∙◌, subst, subst⁻¹}
use mathlib.Core.Logic.{◌⊎◌, inl, inr, ⊎_elim}
use mathlib.Core.Bool.{Bool, true, false}
use mathlib.Core.List.{List, [], ◌∷◌, ◌++◌}
use native.Mathlib.Omega.{arith}
use borrow.Author.Tests.{ltb-true, ltb-false}
use lib.Dec.{ltb}
use lib.ListN.{length, get_or, take, drop, length-append}
use lib.Seq.{take_at}
use Rattle.lists.specs.Every.{All}
use Rattle.lists.proofs.Every.{all_right}
use Rattle.lists.specs.Ladder.{Ladder, rung, foot, Answers}
use Rattle.lists.proofs.Seqs.{cut}
use Rattle.writing.specs.Carrier.{first_byte, Opens, InSize, OtherType}
use Rattle.writing.specs.Fields.{bits, bits_of, Field, val, Shows, widths}
use Rattle.writing.proofs.Bits.{shows_split, shows_length}
use Rattle.read_carrier.proofs.MessageOne.{opens_one}
use Rattle.tables.specs.declared.limits.Limits.{Limits}
use Rattle.tables.specs.Tables.{Tables}
use Rattle.reports.specs.Cut.{messages, report_bytes}
use Rattle.reports.specs.Items.{Item}
use Rattle.reports.specs.Reading.{reading}
use Rattle.reports.specs.Reporting.{After, Asks, TooMany, NoIndex, Reports, reporting}
use Rattle.reports.specs.Reports.{TypesOf, ReportOf}
use Rattle.reports.proofs.Determined.{asks_one}
use Rattle.reports.proofs.ReadBack.{read_back, message_long}

-- ---- a report opens as one

-- fields of eight bits at the start of bytes are the first byte (as in carrier's MessageOne, where it is not pub)
first_shows : (fs gs : List Field) (x : List ℕ) → widths fs ≡ 8 → Shows (fs ++ gs) (bits_of x) → (b : ℕ) × (rest : List ℕ) × (x ≡ b ∷ rest) × Shows fs (bits_of (b ∷ []))
first_shows fs gs [] w s =
    let (a, b, e, p, q) = shows_split fs gs [] s in
    let l : 0 ≡ length a + length b = ap length e ∙ length-append a b in
    absurd (omega (arith, shows_length fs a p))
first_shows fs gs (b ∷ x) w s =
    let (a, r, e, p, q) = shows_split fs gs (bits 8 b ++ bits_of x) s in
    let (z, y) = cut a (bits 8 b) (shows_length fs a p ∙ w) (sym e) in
    (b, x, refl, subst (Shows fs) z p)

pub report_opens : {n i : ℕ} {l : List Item} {m : List ℕ} (r : ReportOf n i l m) → Opens 1 3 7 r.data_bytes m
report_opens {n} {i} {l} r =
    let (b, rest, e, p) = first_shows (first_byte 1 3) (val 8 n ∷ val 8 i ∷ val 8 (length l) ∷ []) r.head refl r.says in
    record { carried = r.carried; first = b; rest = rest ++ r.rest; parts = r.parts ∙ ap (λ (x : List ℕ). x ++ r.rest) e; says = p }

-- and a query as one
pub query_opens : {types m : List ℕ} (q : TypesOf types m) → Opens 1 2 q.any_coding q.data_bytes m
query_opens {types} q =
    let (b, rest, e, p) = first_shows (first_byte 1 2) (val 8 (length types) ∷ []) q.head refl q.says in
    record { carried = q.carried; first = b; rest = rest ++ types; parts = q.parts ∙ ap (λ (x : List ℕ). x ++ types) e; says = p }

-- QUERY NOT TAKEN: a query is of another type for taking, which answers 14; and so is a report
pub query_other : {types m : List ℕ} → TypesOf types m → OtherType m
query_other q version kind coding data_bytes is o =
    let e : kind ≡ 2 = (opens_one o (query_opens q)).1 in ⊎_elim (λ z. omega arith) (λ z. omega arith) is

pub report_other : {n i : ℕ} {l : List Item} {m : List ℕ} → ReportOf n i l m → OtherType m
report_other r version kind coding data_bytes is o =
    let e : kind ≡ 3 = (opens_one o (report_opens r)).1 in ⊎_elim (λ z. omega arith) (λ z. omega arith) is

-- a report in size is read as what it says
pub report_answers : (most : ℕ) {n i : ℕ} {l : List Item} {m : List ℕ} → InSize most m → ReportOf n i l m
    → Answers (reading most m) (record { number = 0; total = n; index = i; items = l })
report_answers most {n} {i} {l} {m} s r =
    inr (
      λ k. k s,
      inr (
        λ k. k 7 r.data_bytes r.carried,
        inr (
          λ k. k 1 3 7 r.data_bytes refl (report_opens r),
          inr (λ k. k 3 7 r.data_bytes (report_opens r), inr (λ k. k n i l r, record { good = refl; report = r })),
        ),
      ),
    )

-- ---- the foot of a ladder, where the answer is none of the rungs'

module _ {A : Type 0} (Good : A → Type 0) where
  abbrev Refuses : Ladder A → Type 0
  Refuses (rung P a l) = (Good a → ⊥) × Refuses l
  Refuses (foot R) = Unit {0}

  abbrev Foot : Ladder A → A → Type 0
  Foot (rung P a l) x = (P → ⊥) × Foot l x
  Foot (foot R) x = R x

  at_foot : (l : Ladder A) → Refuses l → (x : A) → Good x → Answers l x → Foot l x
  at_foot (rung P a l) h x g (inl p) = absurd (h.0 (subst Good p.1 g))
  at_foot (rung P a l) h x g (inr p) = (p.0, at_foot l h.1 x g p.1)
  at_foot (foot R) h x g p = p

-- ---- the report call

-- a query's types are bytes, and at most 255
pub types_bytes : {types query : List ℕ} → All (◌< 256) query → TypesOf types query → All (◌< 256) types
types_bytes {types} {query} b q =
    let w : All (◌< 256) (q.carried.header ++ q.data_bytes) = (subst (All (◌< 256)) q.carried.whole b).1.1 in
    all_right (◌< 256) q.head types (subst (All (◌< 256)) q.parts (all_right (◌< 256) q.carried.header q.data_bytes w))

pub types_few : {types query : List ℕ} → TypesOf types query → length types ≤ 255
types_few {types} q =
    let (x, r, h, l, e, s) = q.says in
    let (x, r, h, l, e, s) = s in
    let (x, r, h, l, e, s) = s in
    omega arith

module _ (m : Limits) (query : List ℕ) (index : ℕ) (store buffer : List ℕ) where
  -- the answer is 0
  abbrev Good : After → Type 0
  Good a = a.answer.number ≡ 0

  -- the message that is written
  abbrev pub written : Tables → List ℕ → List ℕ
  written t types = report_bytes (length (messages m t types)) index (get_or (messages m t types) (index - 1) [])

  module _ (t : Tables) (types : List ℕ) (asks : Asks m query index store buffer t types) where
    pub in_total : (TooMany m query index store buffer → ⊥) → length (messages m t types) ≤ 255
    in_total h = go (ltb 255 (length (messages m t types))) refl
      where
        go : (b : Bool) → ltb 255 (length (messages m t types)) ≡ b → length (messages m t types) ≤ 255
        go true e = absurd (h (λ u r a. let (x, y) = asks_one m query index store buffer asks a in
            subst (λ (z : Tables × List ℕ). 255 < length (messages m z.0 z.1)) (λ i. (x i, y i)) (ltb-true 255 (length (messages m t types)) e)))
        go false e = omega (arith, ltb-false 255 (length (messages m t types)) e)

    pub has_index : (NoIndex m query index store buffer → ⊥) → (1 ≤ index) × (index ≤ length (messages m t types))
    has_index h = go (ltb 0 index) (ltb (length (messages m t types)) index) refl refl
      where
        moved : {u : Tables} {r : List ℕ} → Asks m query index store buffer u r → index ≤ length (messages m u r) → index ≤ length (messages m t types)
        moved a l = let (x, y) = asks_one m query index store buffer a asks in
            subst (λ (z : Tables × List ℕ). index ≤ length (messages m z.0 z.1)) (λ i. (x i, y i)) l

        go : (b d : Bool) → ltb 0 index ≡ b → ltb (length (messages m t types)) index ≡ d → (1 ≤ index) × (index ≤ length (messages m t types))
        go false d e f = absurd (h (λ u r a o l. omega (arith, ltb-false 0 index e)))
        go true true e f = absurd (h (λ u r a o l. omega (arith, ltb-true (length (messages m t types)) index f, moved a l)))
        go true false e f = (omega (arith, ltb-true 0 index e), omega (arith, ltb-false (length (messages m t types)) index f))

  -- the message in the buffer is read with the total that was told, the index that was asked for, and the parameters of that message
  pub record ReadAs (a : After) : Type 0 where
    pub tables : Tables
    pub types : List ℕ
    pub asks : Asks m query index store buffer tables types
    pub total : a.answer.total ≡ length (messages m tables types)
    pub reads : Answers (reading m.message (take a.answer.message_length a.buffer))
        (record { number = 0; total = a.answer.total; index = index; items = get_or (messages m tables types) (index - 1) [] })

  module _ (b : All (◌< 256) query) (wide : 61 ≤ m.message) (short : m.message ≤ 65535) where
    written_read : (t : Tables) (types : List ℕ) → Asks m query index store buffer t types → length (messages m t types) ≤ 255 → 1 ≤ index → index ≤ length (messages m t types)
        → Answers (reading m.message (written t types)) (record { number = 0; total = length (messages m t types); index = index; items = get_or (messages m t types) (index - 1) [] })
    written_read t types asks n o l =
        let e : suc (index - 1) ≡ index = omega arith in
        let j : index - 1 < length (messages m t types) = omega arith in
        let d : All (◌< 256) types = types_bytes b asks.asks in
        subst (λ (i : ℕ). Answers (reading m.message (report_bytes (length (messages m t types)) i (get_or (messages m t types) (index - 1) [])))
        (record { number = 0; total = length (messages m t types); index = i; items = get_or (messages m t types) (index - 1) [] })) e
        (report_answers m.message (message_long m t types asks.holds.0 d wide (index - 1) j) (read_back m t types asks.holds.0 d wide (index - 1) j n short))

    -- REPORT READ: what the call writes where it answers 0 is read
    pub report_read : (a : After) → Answers (reporting m query index store buffer) a → a.answer.number ≡ 0 → ReadAs a
    report_read a ans good = go (at_foot Good (reporting m query index store buffer) refused a good ans).1.1.1.1.1.1.1
      where
        refused : Refuses Good (reporting m query index store buffer)
        refused = (λ e. omega (arith, e), (λ e. omega (arith, e), (λ e. omega (arith, e), (λ e. omega (arith, e), (λ e. omega (arith, e), (λ e. omega (arith, e), (λ e. omega (arith, e), (λ e. omega (arith, e), (λ e. omega (arith, e), tt)))))))))

        go : (TooMany m query index store buffer → ⊥) × ((NoIndex m query index store buffer → ⊥) × Reports m query index store buffer a) → ReadAs a
        go f =
            let r : Reports m query index store buffer a = f.1.1 in
            let n : length (messages m r.tables r.types) ≤ 255 = in_total r.tables r.types r.asks f.0 in
            let i : (1 ≤ index) × (index ≤ length (messages m r.tables r.types)) = has_index r.tables r.types r.asks f.1.0 in
            subst⁻¹ ReadAs r.after (record {
              tables = r.tables;
              types = r.types;
              asks = r.asks;
              total = refl;
              reads = subst⁻¹ (λ (x : List ℕ). Answers (reading m.message x)
                  (record { number = 0; total = length (messages m r.tables r.types); index = index; items = get_or (messages m r.tables r.types) (index - 1) [] }))
                  (take_at (written r.tables r.types) (drop (length (written r.tables r.types)) buffer) (length (written r.tables r.types)) refl)
                  (written_read r.tables r.types r.asks n i.0 i.1);
            })
