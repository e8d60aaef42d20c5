-- Demands 1 to 3 for taking a message, over the contract of commit: for every message, store and reply buffer. Assumes nothing.
use Rattle.lists.proofs.Kit.{ℕ, ◌+◌, ◌*◌, ◌-◌, ◌≤◌, ◌<◌, ◌≡◌, refl, sym, ap, ◌∙◌, subst, subst₂, subst⁻¹, ◌≢◌, ◌⊎◌, inl, inr, ⊎_elim, ◌↔◌, Bool, true, false, List, [], ◌++◌, append-nil, nil≢cons, arith, length, mid_of, take, drop, take-take}
use native.Mathlib.Decide.{dec_le}
use Rattle.lists.specs.Bytes.{Bytes}
use Rattle.lists.specs.Ladder.{Answers}
use Rattle.writing.specs.declared.Coding.{Coding}
use Rattle.writing.specs.Carrier.{Counted, InSize}
use Rattle.writing.specs.Fields.{bits_of, Shows}
use Rattle.writing.specs.Ranges.{text_limits, InRange}
use Rattle.writing.specs.Settings.{Setting, Hash}
use Rattle.writing.specs.Writing.{WrittenAll, WrittenAs, request_head}
use Rattle.read_carrier.proofs.CarrierLaws.{carries_one}
use Rattle.read_carrier.proofs.MessageOne.{coding_one, counted_one}
use Rattle.read_carrier.proofs.KindLaws.{request_bytes, opens_no_query, in_size}
use Rattle.tables.specs.declared.limits.Limits.{Limits}
use Rattle.tables.specs.Apply.{apply}
use Rattle.tables.specs.Allowed.{Allowed}
use Rattle.tables.specs.Forms.{layout, region_start, slot_width}
use Rattle.tables.specs.Heads.{line_own}
use Rattle.tables.specs.Layout.{count_size, channels_size}
use Rattle.tables.specs.Store.{StoreOf, Holds}
use Rattle.slots.specs.Slots.{u16}
use Rattle.shared_texts.proofs.FormFrames.{channels_region, lines_region, short_units}
use Rattle.tables.proofs.AllowedLaws.{forget_allowed}
use Rattle.shared_texts.proofs.Forms.{layout_one, holds_store}
use Rattle.tables.specs.Tables.{Tables, no_hash}
use Rattle.laws_taking.specs.Demands.{InTurn, Stand, Passes, Refused, no_count, left_over, at_setting}
use Rattle.requests.specs.Judge as J
use Rattle.requests.specs.Judge.{Outcome, kept, refused}
use Rattle.requests.specs.Requests.{WrittenIn, Known, Runs, Judged, forget, last_item}
use Rattle.station.specs.Taking.{AfterTaking, settled, replies, stays, turned_down, AsRequest, AsQuery, Handled, taken}
use Rattle.laws_taking.proofs.Alike.{judged_alike}
use Rattle.laws_taking.proofs.Demand.{run_allowed, run_written, written_runs, hash_own}
use Rattle.laws_taking.proofs.Determined.{judged_determined, one_writing, type_first}
use Rattle.laws_taking.proofs.JudgeLaws.{Says, Stands, judged_says, RefusedWith, refused_number}

-- the bytes that the lists begin with are their lengths, in either form
counts_stand : (lim : Limits) (t : Tables) → Allowed lim t
    → (mid_of (region_start lim 11) count_size (layout lim t) ≡ u16 (length t.channels)) × (mid_of (region_start lim 12) count_size (layout lim t) ≡ u16 (length t.lines))
counts_stand lim t ok = (
  sym (take-take count_size (channels_size lim) (drop (region_start lim 11) (layout lim t)) (omega arith)) ∙ ap (take count_size) (channels_region lim t ok),
  sym (take-take count_size (count_size + lim.lines * slot_width lim.texts line_own short_units + lim.lines) (drop (region_start lim 12) (layout lim t)) (omega arith))
      ∙ ap (take count_size) (lines_region lim t ok),
)

-- ---- what judging says

module _ (c : Coding) (lim : Limits) (t : Tables) {n : ℕ} {bs : List ℕ} {o : Outcome Setting Tables} where
  -- what each outcome says
  says : Judged c lim n t bs o → Says Setting Tables (WrittenIn c) (InRange text_limits) (apply lim) Known (one_writing c) (type_first c) n t bs o
  says = judged_says Setting Tables (WrittenIn c) (InRange text_limits) (apply lim) Known (one_writing c) (type_first c)

  -- with which number
  pub numbered : Judged c lim n t bs o → RefusedWith Setting Tables (WrittenIn c) (InRange text_limits) (apply lim) Known (one_writing c) (type_first c) o
  numbered = refused_number Setting Tables (WrittenIn c) (InRange text_limits) (apply lim) Known (one_writing c) (type_first c)

-- ---- how a message ends

-- equal outcomes have equal numbers
pub number_of : {x y : AfterTaking} → x ≡ y → x.answer.number ≡ y.answer.number
number_of e = ap (λ (y : AfterTaking). y.answer.number) e

module _ (lim : Limits) (message store reply : List ℕ) where
  -- nothing is touched, or a reply is written and the store stays, or a request is taken
  data Ends (x : AfterTaking) : Type 0 where
    nothing : (n : ℕ) → x ≡ stays lim message store reply n → Ends x
    replied : (number failed : ℕ) (send reboot : Bool) (h : Hash) → number ≤ 5 → x ≡ replies lim message store reply number failed send reboot h store → Ends x
    stored : (l : List Setting) (u : Tables) → Allowed lim u → x ≡ settled lim message store reply (kept l u) → Ends x

  request_ends : (t : Tables) → Allowed lim t → (x : AfterTaking) → AsRequest lim message store reply t x → Ends x
  request_ends t ok x (c, count, settings, r, kept l u, j, e) = stored l u (run_allowed c lim (says c lim (forget t) j).1 (forget_allowed lim t ok)) e
  request_ends t ok x (c, count, settings, r, refused number failed, j, e) = replied number failed true false no_hash (omega (arith, (numbered c lim (forget t) j).1)) e

  query_ends : (t : Tables) (x : AfterTaking) → AsQuery lim message store reply t x → Ends x
  query_ends t x (h, q, inl (_, _, e)) = replied 0 0 true false t.hash (omega arith) e
  query_ends t x (h, q, inr (_, e)) = replied 5 0 true false t.hash (omega arith) e

  ends : (x : AfterTaking) → Answers (taken lim message store reply) x → Ends x
  ends x (inl (_, e)) = nothing 10 e
  ends x (inr (_, inl (_, e))) = nothing 11 e
  ends x (inr (_, inr (_, inl (_, e)))) = nothing 12 e
  ends x (inr (_, inr (_, inr (_, inl (_, e))))) = nothing 13 e
  ends x (inr (_, inr (_, inr (_, inr (_, inl (_, e)))))) = nothing 14 e
  ends x (inr (_, inr (_, inr (_, inr (_, inr (_, inl (_, e))))))) = replied 1 0 true false no_hash (omega arith) e
  ends x (inr (_, inr (_, inr (_, inr (_, inr (_, inr (_, inl (_, e)))))))) = replied 4 0 true false no_hash (omega arith) e
  ends x (inr (_, inr (_, inr (_, inr (_, inr (_, inr (_, inr (_, h)))))))) = ⊎_elim (request_ends h.tables h.holds.0 x) (query_ends h.tables x) h.comes_to

  -- what is not under 20 bytes has them
  big_enough : (length reply < 20 → ⊥) → 20 ≤ length reply
  big_enough h = by (dec_le 20 (length reply))
    where
      by : Dec (20 ≤ length reply) → 20 ≤ length reply
      by (yes l) = l
      by (no f) = absurd (h (omega arith))

  -- only 10 says that the reply buffer is too short
  pub had_room : (x : AfterTaking) → Answers (taken lim message store reply) x → x.answer.number ≢ 10 → 20 ≤ length reply
  had_room x (inl (_, e)) n = absurd (n (number_of e))
  had_room x (inr (h, _)) n = big_enough h

  -- ANSWERED 0: such a message has passed every test
  pub answered_0 : (x : AfterTaking) → Answers (taken lim message store reply) x → x.answer.number ≡ 0 → (20 ≤ length reply) × InSize lim.message message × Handled lim message store reply x
  answered_0 x (inl (_, e)) n = absurd (omega (arith, n, number_of e))
  answered_0 x (inr (_, inl (_, e))) n = absurd (omega (arith, n, number_of e))
  answered_0 x (inr (_, inr (_, inl (_, e)))) n = absurd (omega (arith, n, number_of e))
  answered_0 x (inr (_, inr (_, inr (_, inl (_, e))))) n = absurd (omega (arith, n, number_of e))
  answered_0 x (inr (_, inr (_, inr (_, inr (_, inl (_, e)))))) n = absurd (omega (arith, n, number_of e))
  answered_0 x (inr (_, inr (_, inr (_, inr (_, inr (_, inl (_, e))))))) n = absurd (omega (arith, n, number_of e))
  answered_0 x (inr (_, inr (_, inr (_, inr (_, inr (_, inr (_, inl (_, e)))))))) n = absurd (omega (arith, n, number_of e))
  answered_0 x (inr (big, inr (_, inr (sized, inr (_, inr (_, inr (_, inr (_, h)))))))) n = (big_enough big, in_size lim.message message sized, h)

  -- STORE STAYS: "Only .. a taken request change[s] it": any number but 0 leaves every byte of the store
  pub store_stays : (x : AfterTaking) → Answers (taken lim message store reply) x → x.answer.number ≢ 0 → x.store ≡ store
  store_stays x a n = by (ends x a)
    where
      by : Ends x → x.store ≡ store
      by (nothing k e) = ap (λ (y : AfterTaking). y.store) e
      by (replied number failed send reboot h l e) = ap (λ (y : AfterTaking). y.store) e
      by (stored l u ok e) = absurd (n (ap (λ (y : AfterTaking). y.answer.number) e))

  -- UNTOUCHED: "10 to 17 touch no byte of any buffer", and "for 10 to 14: ID 0, no, no, length 0"
  pub untouched : (x : AfterTaking) → Answers (taken lim message store reply) x → 10 ≤ x.answer.number → x ≡ stays lim message store reply x.answer.number
  untouched x a n = by (ends x a)
    where
      by : Ends x → x ≡ stays lim message store reply x.answer.number
      by (nothing k e) = e ∙ ap (stays lim message store reply) (sym (ap (λ (y : AfterTaking). y.answer.number) e))
      by (replied number failed send reboot h l e) = absurd (omega (arith, n, l, ap (λ (y : AfterTaking). y.answer.number) e))
      by (stored l u ok e) = absurd (omega (arith, n, ap (λ (y : AfterTaking). y.answer.number) e))

  -- STORE KEPT: whatever message comes, a store is a store afterwards
  pub store_kept : StoreOf lim store → (x : AfterTaking) → Answers (taken lim message store reply) x → StoreOf lim x.store
  store_kept s x a = by (ends x a)
    where
      by : Ends x → StoreOf lim x.store
      by (nothing k e) = subst⁻¹ (λ (y : AfterTaking). StoreOf lim y.store) e s
      by (replied number failed send reboot h l e) = subst⁻¹ (λ (y : AfterTaking). StoreOf lim y.store) e s
      by (stored l u ok e) =
          subst⁻¹ (λ (y : AfterTaking). StoreOf lim y.store) e (holds_store lim u (layout lim u) s.roomy (ok, refl))

  -- COUNTS KEPT: and its counts are the lengths of the lists that it then holds
  pub counts_kept : StoreOf lim store → (x : AfterTaking) → Answers (taken lim message store reply) x
      → (t : Tables) × Holds lim t x.store × (mid_of (region_start lim 11) count_size x.store ≡ u16 (length t.channels)) × (mid_of (region_start lim 12) count_size x.store ≡ u16 (length t.lines))
  counts_kept s x a =
      let k = (store_kept s x a).store in
      let c = counts_stand lim k.tables k.allowed in
      (k.tables, (k.allowed, k.bytes_are), ap (mid_of (region_start lim 11) count_size) k.bytes_are ∙ c.0, ap (mid_of (region_start lim 12) count_size) k.bytes_are ∙ c.1)

-- ---- a request that passes the checks

-- settings that are written as the data bytes are counted, and follow ParamSum
pub written_counted : {c : Coding} {l : List Setting} {d : List ℕ} (w : WrittenAs c l d) → Counted (length l) w.settings d
written_counted w = record { head = w.head; parts = w.parts; says = w.counted; some_setting = w.some_setting }

-- and back: as many settings as are counted, written as what follows ParamSum
pub counted_written : {c : Coding} {l : List Setting} {count : ℕ} {settings w d : List ℕ} → Counted count settings d → length l ≡ count → settings ≡ w → WrittenAll c l w → WrittenAs c l d
counted_written {w = w} k n e y = record {
  some_setting = subst (λ (i : ℕ). 1 ≤ i) (sym n) k.some_setting;
  head = k.head;
  settings = w;
  parts = k.parts ∙ ap (λ (i : List ℕ). k.head ++ i) e;
  counted = subst (λ (i : ℕ). Shows (request_head i) (bits_of k.head)) (sym n) k.says;
  written = y;
}

module _ (c : Coding) (lim : Limits) (message store reply : List ℕ) (b : Bytes message) (t : Tables) (d : List ℕ) (p : Passes c lim message store reply t d) where
  -- what such a request comes to: it is not counted, or its settings are judged from the tables of the store
  data Comes (x : AfterTaking) : Type 0 where
    not_counted : ((count : ℕ) (settings : List ℕ) → Counted count settings d → ⊥) → x ≡ turned_down lim message store reply 4 0 → Comes x
    judged : {count : ℕ} {settings : List ℕ} → Counted count settings d → Bytes settings → (o : Outcome Setting Tables) → Judged c lim count (forget t) settings o
        → x ≡ settled lim message store reply o → Comes x

  -- a request among the messages that are handled
  foot_comes : (x : AfterTaking) (u : Tables) → u ≡ t → AsRequest lim message store reply u x ⊎ AsQuery lim message store reply u x → Comes x
  foot_comes x u i (inl (c', count, settings, r, o, j, e)) =
      let (k, s) = carries_one r.carried p.opens.carried in
      judged (subst (Counted count settings) s r.counted) (request_bytes r b) o
      (subst₂ (λ (a : Coding) (v : Tables). Judged a lim count (forget v) settings o) (coding_one c' c k) i j) e
  foot_comes x u i (inr (h, q, _)) = absurd (opens_no_query p.opens refl h q)

  comes : (x : AfterTaking) → Answers (taken lim message store reply) x → Comes x
  comes x (inl (h, _)) = absurd (omega (arith, h, p.buffer))
  comes x (inr (_, inl (n, _))) = absurd (n p.store_is)
  comes x (inr (_, inr (_, inl (n, _)))) = absurd (n p.in_size)
  comes x (inr (_, inr (_, inr (_, inl (n, _))))) = absurd (n _ _ p.opens.carried)
  comes x (inr (_, inr (_, inr (_, inr (_, inl (n, _)))))) = absurd (n _ _ _ _ (inl refl) p.opens)
  comes x (inr (_, inr (_, inr (_, inr (_, inr (_, inl (n, _))))))) = absurd (n _ _ _ p.opens)
  comes x (inr (_, inr (_, inr (_, inr (_, inr (_, inr (_, inl (n, e)))))))) =
      not_counted (λ count settings k. n.0 c count settings (record { data_bytes = d; carried = p.opens.carried; counted = k })) e
  comes x (inr (_, inr (_, inr (_, inr (_, inr (_, inr (_, inr (_, h)))))))) =
      foot_comes x h.tables (layout_one lim h.tables t h.holds.0 p.holds.0 (sym h.holds.1 ∙ p.holds.1)) h.comes_to

  -- the settings of a run, as they stand
  abbrev stand : {n k : ℕ} {bs rest : List ℕ} {l : List Setting} {u : Tables} → length l ≡ k → Runs c lim n (forget t) bs l u rest → Stand c lim n (forget t) bs k
  stand {rest} {l} {u} e q =
      let (w, p, y, z) = run_written c lim q in
      record { settings = l; tables = u; written = w; rest = rest; parts = p; counted = e; writing = y; in_turn = z }

  abbrev Stood : ℕ → List ℕ → ℕ → Type 0
  Stood n bs k = Stands Setting Tables (WrittenIn c) (InRange text_limits) (apply lim) Known (one_writing c) (type_first c) n (forget t) bs k

  -- and back
  stands : {n k : ℕ} {bs : List ℕ} → Bytes bs → Stand c lim n (forget t) bs k → Stood n bs k
  stands {n} {bs} bytes z =
      (z.settings, z.tables, z.rest, z.counted, written_runs c lim n (forget t) z.tables bs z.written z.rest z.settings bytes z.parts z.writing z.in_turn)

  module _ (x : AfterTaking) (a : Answers (taken lim message store reply) x) where
    -- settings that are written as the data bytes are judged
    listed : (l : List Setting) (w : WrittenAs c l d)
        → (o : Outcome Setting Tables) × Judged c lim (length l) (forget t) w.settings o × Bytes w.settings × (x ≡ settled lim message store reply o)
    listed l w = by (comes x a)
      where
        by : Comes x → (o : Outcome Setting Tables) × Judged c lim (length l) (forget t) w.settings o × Bytes w.settings × (x ≡ settled lim message store reply o)
        by (not_counted never e) = absurd (never _ _ (written_counted w))
        by (judged counts bytes o j e) =
            let (n, r) = counted_one counts (written_counted w) in
            (o, subst₂ (λ (k : ℕ) (s : List ℕ). Judged c lim k (forget t) s o) n r j, subst Bytes r bytes, e)

    -- WHAT IS LEFT: settings that are written as the data bytes under the request's coding type, in range and with room in turn, leave their tables and no others
    pub taken_leaves : (l : List Setting) (u : Tables) → WrittenAs c l d → InTurn lim (length l) (forget t) l u → x ≡ settled lim message store reply (kept l u)
    taken_leaves l u w z =
        let (o, j, bytes, e) = listed l w in
        let q : Runs c lim (length l) (forget t) w.settings l u []
        = written_runs c lim (length l) (forget t) u w.settings w.settings [] l bytes (sym (append-nil w.settings)) w.written z in
        e ∙ ap (settled lim message store reply) (judged_determined c lim (length l) (forget t) w.settings o (kept l u) j (J.taken refl q))

    -- TAKEN EXACTLY: demand 3's first half, under the request's coding type
    pub taken_exactly : (x.answer.number ≡ 0) ↔ ((l : List Setting) × (u : Tables) × WrittenAs c l d × InTurn lim (length l) (forget t) l u)
    taken_exactly = (λ e. by e (comes x a), λ (l, u, w, z). ap (λ (y : AfterTaking). y.answer.number) (taken_leaves l u w z))
      where
        by : x.answer.number ≡ 0 → Comes x
            → (l : List Setting) × (u : Tables) × WrittenAs c l d × InTurn lim (length l) (forget t) l u
        by n (not_counted never e) = absurd (omega (arith, n, ap (λ (y : AfterTaking). y.answer.number) e))
        by n (judged counts bytes (refused number failed) j e) = absurd (omega (arith, n, ap (λ (y : AfterTaking). y.answer.number) e, (numbered c lim (forget t) j).0))
        by n (judged counts bytes (kept l u) j e) =
            let (q, r) = says c lim (forget t) j in
            let (w, k, y, z) = run_written c lim r in
            (l, u, counted_written counts q (k ∙ append-nil w) y, subst (λ (i : ℕ). InTurn lim i (forget t) l u) (sym q) z)

    -- HASH KEPT: "After each taken request the hash kept is that request's own; with code 0 or no FF, none"
    pub hash_kept : (l : List Setting) (u : Tables) → InTurn lim (length l) (forget t) l u → u.hash ≡ (last_item l).hash
    hash_kept l u z = hash_own lim (length l) (forget t) u l refl z

    -- FIRST FAULT: demand 3's other half, under the request's coding type; the reply is that of a refusal
    pub first_fault : x.answer.number ≢ 0 → Refused c lim (forget t) d x.answer.number x.answer.failed × (x ≡ turned_down lim message store reply x.answer.number x.answer.failed)
    first_fault n = by (comes x a)
      where
        -- the refusal with this number and failed ID is the answer
        as_said : (number failed : ℕ) → x ≡ turned_down lim message store reply number failed → Refused c lim (forget t) d number failed
            → Refused c lim (forget t) d x.answer.number x.answer.failed × (x ≡ turned_down lim message store reply x.answer.number x.answer.failed)
        as_said number failed e r =
            let i : number ≡ x.answer.number = sym (ap (λ (y : AfterTaking). y.answer.number) e) in
            let j : failed ≡ x.answer.failed = sym (ap (λ (y : AfterTaking). y.answer.failed) e) in
            (subst₂ (Refused c lim (forget t) d) i j r, subst₂ (λ (k f : ℕ). x ≡ turned_down lim message store reply k f) i j e)

        by : Comes x
            → Refused c lim (forget t) d x.answer.number x.answer.failed × (x ≡ turned_down lim message store reply x.answer.number x.answer.failed)
        by (not_counted never e) = as_said 4 0 e (no_count never refl refl)
        by (judged counts bytes (kept l u) j e) = absurd (n (ap (λ (y : AfterTaking). y.answer.number) e))
        by (judged {count} {settings} counts bytes (refused number failed) j e) = as_said number failed e (why (says c lim (forget t) j))
          where
            why : Says Setting Tables (WrittenIn c) (InRange text_limits) (apply lim) Known (one_writing c) (type_first c) count (forget t) settings (refused number failed)
                → Refused c lim (forget t) d number failed
            why (inl (f, k, l, u, y, rest, q, r)) = left_over counts (stand q r) (λ z. nil≢cons (sym z)) k f
            why (inr (one, most, fewer, never, l, u, rest, q, r, at_it)) = at_setting counts (record {
              from_1 = one;
              up_to = most;
              least = λ k h. let y = fewer k h in stand y.3 y.4;
              not_so_many = λ z. never (stands bytes z);
              before = stand (let i : length l ≡ failed - 1 = omega arith in i) r;
              at_fault = at_it;
            })

-- ---- one list under either coding type

-- what an outcome leaves, it leaves for every message
left_alike : (lim : Limits) (m m' store reply : List ℕ) (o : Outcome Setting Tables) → settled lim m store reply o ≡ settled lim m' store reply o
left_alike lim m m' store reply (kept l u) = refl
left_alike lim m m' store reply (refused number failed) = refl

-- TEXTS ALIKE: one list, sent under either coding type, is answered alike, and leaves the same tables and the same reply
pub texts_alike : (c c' : Coding) (lim : Limits) (m m' store reply : List ℕ) → Bytes m → Bytes m' → (t : Tables) (d d' : List ℕ)
    → Passes c lim m store reply t d → Passes c' lim m' store reply t d' → (l : List Setting) → WrittenAs c l d → WrittenAs c' l d'
    → (x x' : AfterTaking) → Answers (taken lim m store reply) x → Answers (taken lim m' store reply) x' → x ≡ x'
texts_alike c c' lim m m' store reply b b' t d d' p p' l w w' x x' a a' =
    let (o, j, s, e) = listed c lim m store reply b t d p x a l w in
    let (o', j', s', e') = listed c' lim m' store reply b' t d' p' x' a' l w' in
    let same : o ≡ o' = judged_determined c' lim (length l) (forget t) w'.settings o o'
    (judged_alike c c' lim (forget t) l w.settings w'.settings o w.written w'.written s s' j) j' in
    e ∙ ap (settled lim m store reply) same ∙ left_alike lim m m' store reply o' ∙ sym e'
