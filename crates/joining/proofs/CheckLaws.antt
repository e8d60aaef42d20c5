-- One of the requests, as the code checks it. Assumes nothing.
use Rattle.lists.proofs.Kit.{ℕ, suc, ◌+◌, ◌-◌, ◌≤◌, ◌<◌, ◌≡◌, refl, sym, ap, ◌∙◌, subst, subst⁻¹, ◌≢◌, List, [], ◌∷◌, ◌++◌, Bool, true, false, Option, none, some, option_some_ne_none, arith, not, eqb, eqb-true, eqb-false, not-true, not-false, length, drop, length-append, drop_of_length-le, drop-cons, drop-drop, drop_at}
use denote.Enum.Declared.{tag_of}
use types.Run.{OneOf, miss}
use Rattle.lists.specs.Bytes.{Bytes}
use Rattle.lists.proofs.Bytes.{bytes_drop}
use Rattle.writing.specs.declared.Coding.{Coding}
use Rattle.writing.specs.declared.LastFlags.{LastFlags}
use Rattle.writing.specs.Carrier.{carrier as carrier_fields, coding_type, Opens, RequestOf}
use Rattle.writing.specs.Ranges.{text_limits, InRange}
use Rattle.writing.specs.Settings.{Setting}
use Rattle.writing.specs.Writing.{request_head}
use Rattle.read_fields.specs.declared.hashes.HashPlace.{HashPlace}
use Rattle.read_fields.specs.Places.{StandsAt}
use Rattle.read_fields.proofs.Parts.{bytes_left}
use Rattle.read_carrier.specs.Message.{OpenedIs, MessageIs}
use Rattle.read_carrier.specs.declared.carrier.Message.{Message}
use Rattle.read_carrier.specs.declared.carrier.Message.TheVariants.{Size, Carrier, «Type» as AnotherType, Version, NoRequest as NotRequest, Request as ARequest, NoQuery as NotQuery, Query as AQuery}
use Rattle.read_carrier.specs.declared.carrier.Opening.{Opening}
use Rattle.read_carrier.specs.declared.carrier.Unopened.{Unopened}
use Rattle.read_carrier.specs.declared.carrier.Unopened.TheVariants.{Size as OutOfSize, Carrier as Uncarried}
use Rattle.read_carrier.proofs.CarrierLaws.{wide_bytes}
use Rattle.read_carrier.proofs.KindLaws.{uncounted}
use Rattle.read_carrier.proofs.MessageOne.{opens_one, query_opens}
use Rattle.read_setting.specs.SettingAt.{SettingAt}
use Rattle.std.specs.Prelude.{Ok, Err}
use Rattle.read_setting.specs.declared.reader.SettingFault.TheVariants.{Missing, Unknown, Field as BadField}
use Rattle.settings.specs.declared.settings.Setting.{Setting as Read}
use Rattle.settings.specs.contracts.settings.Setting.{the_type}
use Rattle.settings.specs.declared.settings.Setting.TheVariants.{GroupContacts, IndividualContacts, Lines, Key, QuickTexts, Home, Channels, System, StatusTexts, Group, Individual, LineSlot, Last}
use Rattle.requests.specs.Judge as Judge
use Rattle.requests.specs.Judge.{Outcome, kept, refused, done, step, missing, unknown, field, taken, over, fault}
use Rattle.requests.specs.Requests.{WrittenIn, Known, item_of}
use Rattle.requests.proofs.Joining.{then_run}
use Rattle.std.specs.Prelude.{Result, Ok, Err}
use Rattle.joining.specs.declared.answers.Fault.{Fault as Refusal}
use Rattle.joining.specs.declared.checks.Head.{Head}
use Rattle.joining.specs.declared.checks.Step.TheVariants.{Next}
use Rattle.joining.specs.Joins.{Sound, EndsRequest}
use Rattle.joining.specs.Checking.{EndsAs, TurnsDown, IsLast, StepIs, FaultAt, SettingsAre, OpensElse, Faulty, size, carrier, other_type, other_version, no_request, at_settings, Fine, RequestIs}

-- ---- whether a setting that was read is an FF item

-- another setting than FF is none
not_last : {s t : Setting} → s ≡ t → item_of t ≡ none → EndsAs false (s ∷ [])
not_last e n h = h (ap item_of e ∙ n)

pub last_is : (f : LastFlags) (p : HashPlace) → IsLast (Last f p) true
last_is f p m s (v, e, _, _) n = option_some_ne_none _ (sym (ap item_of e) ∙ n)

pub last_none : (r : Read) → OneOf (0 ∷ 1 ∷ 2 ∷ 3 ∷ 4 ∷ 5 ∷ 6 ∷ 7 ∷ 8 ∷ 9 ∷ 10 ∷ 11 ∷ []) (tag_of the_type r) → IsLast r false
last_none (GroupContacts o f p) k m s (es, e, _) = not_last e refl
last_none (IndividualContacts o f p) k m s (es, e, _) = not_last e refl
last_none (Lines o f p) k m s (es, e, _) = not_last e refl
last_none (Key t f) k m s e = not_last e refl
last_none (QuickTexts o p) k m s (es, e, _) = not_last e refl
last_none (Home h) k m s e = not_last e refl
last_none (Channels o p) k m s (es, e, _) = not_last e refl
last_none (System x) k m s e = not_last e refl
last_none (StatusTexts o p) k m s (es, e, _) = not_last e refl
last_none (Group o f p) k m s (es, e, _) = not_last e refl
last_none (Individual o f p) k m s (es, e, _) = not_last e refl
last_none (LineSlot o f p) k m s (x, e, _) = not_last e refl
last_none (Last f p) k m s x = absurd (miss (0 ∷ 1 ∷ 2 ∷ 3 ∷ 4 ∷ 5 ∷ 6 ∷ 7 ∷ 8 ∷ 9 ∷ 10 ∷ 11 ∷ []) 12 tt k)

-- of settings the last decides
ends_last : (F : Type 0 → Type 0) (l : List Setting) (s : Setting) → F (item_of s ≢ none) → F (EndsRequest (l ++ (s ∷ [])))
ends_last F [] s h = h
ends_last F (x ∷ []) s h = h
ends_last F (x ∷ y ∷ l) s h = ends_last F (y ∷ l) s h

ends_as : (b : Bool) (l : List Setting) (s : Setting) → EndsAs b (s ∷ []) → EndsAs b (l ++ (s ∷ []))
ends_as true l s h = ends_last (λ p. p) l s h
ends_as false l s h = ends_last (λ p. p → ⊥) l s h

-- ---- where the next setting should stand, over any tables

module _ (Tables : Type 0) (apply : Setting → Tables → Option Tables) (c : Coding) where
  -- the notions of requests/specs/Judge.antt, of these settings
  abbrev Runs : ℕ → Tables → List ℕ → List Setting → Tables → List ℕ → Type 0
  Runs = Judge.Runs Setting Tables (WrittenIn c) (InRange text_limits) apply Known

  abbrev Fault : ℕ → Tables → List ℕ → ℕ → Type 0
  Fault = Judge.Fault Setting Tables (WrittenIn c) (InRange text_limits) apply Known

  -- a setting that stands at p: its bytes, and what follows
  stands_in : (m : List ℕ) → Bytes m → (p : ℕ) (s : Setting) (next : ℕ) → StandsAt c m p next s → (w : List ℕ) × (drop p m ≡ w ++ drop next m) × WrittenIn c s w
  stands_in m b p s next x =
      let e : drop next m ≡ x.rest
      = ap (λ (k : ℕ). drop k m) x.ends ∙ sym (drop-drop (length x.bytes) p m) ∙ ap (drop (length x.bytes)) x.split
      ∙ drop_at x.bytes x.rest (length x.bytes) refl in (
        x.bytes,
        x.split ∙ ap (λ (r : List ℕ). x.bytes ++ r) (sym e),
        (x.written, bytes_left x.bytes x.rest (subst Bytes x.split (bytes_drop p m b))),
      )

  module _ (m : List ℕ) (left : ℕ) (u : Tables) (p : ℕ) where
    pub at_end : SettingAt c left m p (Err Missing) → Fault left u (drop p m) 4
    at_end h = subst (λ (l : List ℕ). Fault left u l 4) (sym (drop_of_length-le m h)) missing

    pub at_unknown : SettingAt c left m p (Err Unknown) → Fault left u (drop p m) 3
    at_unknown (h, never) = subst (λ (l : List ℕ). Fault left u l 3) (sym (drop-cons m p 0 h)) (unknown (λ k. never k.0 k.1))

    pub at_field : SettingAt c left m p (Err BadField) → Fault left u (drop p m) 4
    at_field (h, k, e, never) =
        subst (λ (l : List ℕ). Fault left u l 4) (sym (drop-cons m p 0 h))
        (field (k, e) (λ s w r q x i. never s (p + length w) i (record { bytes = w; rest = r; split = drop-cons m p 0 h ∙ q; ends = refl; written = x.0 })))

-- ---- one setting

module _ (c : Coding) (left : ℕ) (m : List ℕ) (at : ℕ) where
  pub step_next : (r : Read) (next : ℕ) (b : Bool) → SettingAt c left m at (Ok (r, next)) → IsLast r b → StepIs c left m at (Next next b)
  step_next r next b (s, means, i, stands) h = (s, i, stands, h m s means)

-- ---- all of them

module _ (m : List ℕ) (at : ℕ) (h : Head) where
  -- so many settings were read, up to the place p
  pub record Along (p n : ℕ) (last : Bool) : Type 0 where
    pub settings : List Setting
    pub counted : length settings ≡ n
    pub runs : Judge.Runs Setting (Unit {0}) (WrittenIn h.coding) (InRange text_limits) (λ s t. some t) Known h.count tt (drop at m) settings tt (drop p m)
    pub ends : EndsAs last settings

  pub along_start : Along at 0 false
  along_start = record { settings = []; counted = refl; runs = done; ends = λ x. x }

  module _ (p n : ℕ) (b : Bool) (l : Along p n b) where
    -- one setting more
    pub along_on : Bytes m → (next : ℕ) (d : Bool) → n < h.count → StepIs h.coding (h.count - n - 1) m p (Next next d) → Along next (n + 1) d
    along_on bytes next d lt (s, i, stands, e) =
        let left : ℕ = h.count - n - 1 in
        let k : length l.settings ≡ n = l.counted in
        let (w, q, x) = stands_in (Unit {0}) (λ s t. some t) h.coding m bytes p s next stands in
        let z : length (l.settings ++ (s ∷ [])) ≡ n + 1 = length-append l.settings (s ∷ []) ∙ omega arith in
        record {
          settings = l.settings ++ (s ∷ []);
          counted = z;
          runs = then_run Setting (Unit {0}) (WrittenIn h.coding) (InRange text_limits) (λ s t. some t) Known (suc left) l.runs (omega arith) (step {w = w} {s = s} q x i refl done);
          ends = ends_as d l.settings s e;
        }

    -- the next is at fault
    pub along_fault : (number : ℕ) → n < h.count → FaultAt h.coding (h.count - n - 1) (drop p m) number
        → Sound h.coding h.count (drop at m) (refused number (n + 1))
    along_fault number lt z =
        let k : length l.settings ≡ n = l.counted in
        subst (λ (i : ℕ). Sound h.coding h.count (drop at m) (refused number (i + 1))) k (fault {l = l.settings} (h.count - n - 1) (omega arith) l.runs z)

    module _ (some_left : h.count ≤ n) (no_more : n ≤ h.count) where
      -- bytes are left over
      pub along_over : p < length m → Sound h.coding h.count (drop at m) (refused 4 0)
      along_over lt =
          let k : length l.settings ≡ n = l.counted in
          over {l = l.settings} (omega arith) (subst (Runs (Unit {0}) (λ s t. some t) h.coding h.count tt (drop at m) l.settings tt) (drop-cons m p 0 lt) l.runs)

      -- none are
      pub along_end : length m ≤ p → Sound h.coding h.count (drop at m) (kept l.settings tt)
      along_end le =
          let k : length l.settings ≡ n = l.counted in
          taken {l = l.settings} (omega arith) (subst (Runs (Unit {0}) (λ s t. some t) h.coding h.count tt (drop at m) l.settings tt) (drop_of_length-le m le) l.runs)

      -- and the last is an FF item, or it is not
      pub along_ff : length m ≤ p → b ≡ true → (o : Outcome Setting (Unit {0})) × Sound h.coding h.count (drop at m) o × TurnsDown o 4 h.count
      along_ff le e =
          let k : length l.settings ≡ n = l.counted in
          (kept l.settings tt, along_end le, (subst (λ (x : Bool). EndsAs x l.settings) e l.ends, refl, omega arith))

      pub along_good : length m ≤ p → b ≡ false → SettingsAre m at h (Ok h)
      along_good le e = (refl, l.settings, along_end le, subst (λ (x : Bool). EndsAs x l.settings) e l.ends)

-- ---- the request

-- a message that opens with this type
pub opens_else : (most : ℕ) (m : List ℕ) (x : Opening) (b : Bool) → OpenedIs most m (Ok x) → not (eqb x.kind 0) ≡ b → OpensElse most m b
opens_else most m x true (i, o) e = (i, x.version, x.kind, x.coding, _, o, eqb-false x.kind 0 (not-true (eqb x.kind 0) e))
opens_else most m x false (i, o) e = λ v' k' c' d j p. (opens_one p o).1 ∙ eqb-true x.kind 0 (not-false (eqb x.kind 0) e)

-- a request counts the settings that it comes to
pub sound_count : (c : Coding) {n : ℕ} {bs : List ℕ} {l : List Setting} {t : Unit {0}} → Sound c n bs (kept l t) → length l ≡ n
sound_count c (taken e q) = e

-- it has eight bytes before them
long_enough : {c : Coding} {n : ℕ} {s m : List ℕ} → RequestOf c n s m → 8 ≤ length m
long_enough {c} {n} {s} {m} r =
    let k = r.carried in
    let a : length k.header ≡ 4 = wide_bytes (carrier_fields k.stated (coding_type c)) 4 k.header refl k.fields in
    let b : length r.counted.head ≡ 2 = wide_bytes (request_head n) 2 r.counted.head refl r.counted.says in
    let d : length r.data_bytes ≡ length r.counted.head + length s = ap length r.counted.parts ∙ length-append r.counted.head s in
    let e : length m ≡ suc (suc (length (k.header ++ r.data_bytes))) = ap length k.whole in
    omega (arith, a, b, d, e, length-append k.header r.data_bytes)

module _ (most : ℕ) (m : List ℕ) where
  -- one that does not open has no type
  pub not_opened : (f : Unopened) → OpenedIs most m (Err f) → OpensElse most m false
  not_opened OutOfSize n v k c d i o = absurd (n i)
  not_opened Uncarried n v k c d i o = absurd (n.1 c d o.carried)

  pub is_other : OpensElse most m true → Faulty most m 14 0
  is_other (i, v, k, c, d, o, n) = other_type i o n

  -- what a message that is no request comes to, by what it was read as
  abbrev pub ByMessage : Message → Type 0
  ByMessage Size = Faulty most m 12 0
  ByMessage Carrier = Faulty most m 13 0
  ByMessage AnotherType = Faulty most m 14 0
  ByMessage Version = Faulty most m 1 0
  ByMessage NotRequest = Faulty most m 4 0
  ByMessage NotQuery = Faulty most m 14 0
  ByMessage (AQuery p) = Faulty most m 14 0
  ByMessage (ARequest count at c) = (r : Result Head Refusal) → SettingsAre m at (record { count = count; coding = c }) r → RequestIs most m r

  pub by_message : (k : Message) → MessageIs most m k → OpensElse most m false → ByMessage k
  by_message Size z n = size z
  by_message Carrier (i, z) n = carrier i z
  by_message AnotherType (i, v, k, c, d, o, a, b) n = other_type i o a
  by_message Version (i, v, k, c, d, o, a, b) n = other_version i (subst (λ (j : ℕ). Opens v j c d m) (n v k c d i o) o) b
  by_message NotRequest (i, c, d, o, never) n = no_request i o (uncounted o never)
  by_message NotQuery (i, c, d, o, never) n = absurd (omega (arith, n 1 5 c d i o))
  by_message (AQuery p) (i, h, q, e, s) n = absurd (omega (arith, n 1 5 _ _ i (query_opens q)))
  by_message (ARequest count at c) (i, d, k, z, e) n = by
    where
      request : RequestOf c count (drop 8 m) m
      request = subst (λ (j : ℕ). RequestOf c count (drop j m) m) e (record { data_bytes = d; carried = k; counted = z })

      by : (r : Result Head Refusal) → SettingsAre m at (record { count = count; coding = c }) r → RequestIs most m r
      by (Ok g) (same, l, s, never) =
          let x : Sound c count (drop 8 m) (kept l tt) = subst (λ (j : ℕ). Sound c count (drop j m) (kept l tt)) e s in
          subst⁻¹ (Fine most m) same (record { settings = l; counted = sound_count c x; size = i; long = long_enough request; request = request; sound = x; no_ff = never })
      by (Err f) (o, s, t) = at_settings o i request (subst (λ (j : ℕ). Sound c count (drop j m) o) e s) t
