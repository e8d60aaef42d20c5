-- What firmware may rely on: one answer of each call, what the tables have there, and that a fresh store has nothing. Assumes nothing.
use Rattle.lists.proofs.Kit.{ℕ, zero, suc, ◌≤◌, ◌<◌, ◌≡◌, refl, sym, ap, ap₂, ◌∙◌, ◌↔◌, false, cond, List, [], ◌∷◌, ◌++◌, map, map-append, map-map, Option, none, some, option_none_ne_some, option_some_injective, inl, inr, arith, eqb, length, get_or, take, drop, replicate, take-suc, take_all, take_at, length-map}
use Rattle.lists.specs.Ladder.{Answers}
use Rattle.lists.proofs.Ladder.{one_answer}
use Rattle.lists.proofs.OneToOne.{decoded}
use Rattle.slots.specs.Slots.{written_over}
use Rattle.writing.specs.declared.HomeNumbers.{HomeNumbers}
use Rattle.writing.specs.declared.KeyTarget.TheVariants.{Current}
use Rattle.writing.specs.declared.SystemCode.{SystemCode}
use Rattle.writing.specs.Settings.{Number}
use Rattle.tables.specs.declared.limits.Limits.{Limits}
use Rattle.tables.specs.Forms.{layout, Roomy}
use Rattle.tables.specs.Limits.{slot_places}
use Rattle.tables.specs.Store.{Holds}
use Rattle.tables.specs.Tables.{Line as LineEntry, Tables, fresh}
use Rattle.tables.proofs.FreshLaws.{fresh_allowed}
use Rattle.shared_texts.proofs.Forms.{layout_one, holds_store}
use Rattle.screen.specs.declared.rows.Row.{Row}
use Rattle.screen.specs.declared.rows.Row.TheVariants.{Line, QuickText, StatusText, Group, Individual, GroupContact, IndividualContact, LineSlot, NoTable}
use Rattle.screen.specs.Rows.{of}
use Rattle.values.specs.declared.answers.Target.{Target}
use Rattle.std.specs.Prelude.{Option as Maybe, Some, None, Result, Ok, Err}
use Rattle.values.specs.declared.answers.EmergencyKey.{EmergencyKey}
use Rattle.values.specs.declared.answers.NoValue.{NoValue}
use Rattle.values.specs.declared.answers.NoValue.TheVariants.{NotAStore, BufferSize, Absent}
use Rattle.values.specs.Digits.{number_at, AfterDigits, digits_told, stays, writing_digits}
use Rattle.values.specs.Values.{line_target, group_target, individual_target, entry_at, channel_at, key_of, Asked, refused, given, refusal, asking, told, held, entering, tuning, key_asked, home_asked, system_asked}
use Rattle.values.proofs.AskLaws.{is_given, is_absent}
use Rattle.values.proofs.TuningLaws.{at_some}

-- ---- one answer

-- two tables of one store are the same
one_tables : (lim : Limits) (store : List ℕ) (t u : Tables) → Holds lim t store → Holds lim u store → t ≡ u
one_tables lim store t u h k = layout_one lim t u h.0 k.0 (sym h.1 ∙ k.1)

-- the refusal of a number
abbrev why_of : ℕ → NoValue
why_of n = cond (eqb n 17) Absent (cond (eqb n 11) NotAStore BufferSize)

why_read : (why : NoValue) → why_of (refusal why) ≡ why
why_read NotAStore = refl
why_read BufferSize = refl
why_read Absent = refl

-- an answer's value says which case it is, and without one its number
abbrev valued : {A : Type 0} → ℕ → Option A → Result A NoValue
valued n none = Err (why_of n)
valued n (some a) = Ok a

abbrev told_back : {A : Type 0} → Asked A → Result A NoValue
told_back a = valued a.number a.value

told_read : {A : Type 0} (a : Result A NoValue) → told_back (told a) ≡ a
told_read (Ok v) = refl
told_read (Err why) = ap Err (why_read why)

-- and of what every store has, whether there is one
abbrev maybe : {A : Type 0} → Option A → Maybe A
maybe none = None
maybe (some a) = Some a

abbrev held_back : {A : Type 0} → Asked A → Maybe A
held_back a = maybe a.value

held_read : {A : Type 0} (a : Maybe A) → held_back (held a) ≡ a
held_read (Some v) = refl
held_read None = refl

module _ {A : Type 0} (lim : Limits) (what : Tables → Option A) (store : List ℕ) where
  one_foot : (a b : Asked A) → (t : Tables) × Holds lim t store × (v : A) × (what t ≡ some v) × (a ≡ given v) → (t : Tables) × Holds lim t store × (v : A) × (what t ≡ some v) × (b ≡ given v) → a ≡ b
  one_foot a b (t, h, v, e, p) (u, k, w, d, q) =
      p ∙ ap given (option_some_injective v w (sym e ∙ ap what (one_tables lim store t u h k) ∙ d)) ∙ sym q

  -- ASKED-ONE: the contract of a call that asks a store for something allows one number with one value
  pub asked_one : (a b : Asked A) → Answers (asking lim what store) a → Answers (asking lim what store) b → a ≡ b
  asked_one = one_answer (asking lim what store) one_foot

  -- and so one answer of the code, which is read back from them
  told_one : (a b : Result A NoValue) → Answers (asking lim what store) (told a) → Answers (asking lim what store) (told b) → a ≡ b
  told_one a b x y = decoded told told_back told_read a b (asked_one (told a) (told b) x y)

  held_one : (a b : Maybe A) → Answers (asking lim what store) (held a) → Answers (asking lim what store) (held b) → a ≡ b
  held_one a b x y = decoded held held_back held_read a b (asked_one (held a) (held b) x y)

module _ (lim : Limits) (store : List ℕ) where
  -- ENTRY-DETERMINED: the contract of the call for a row's entry allows one answer of the code
  pub entry_determined : (row : Row) (a b : Result Target NoValue) → Answers (entering lim row store) (told a) → Answers (entering lim row store) (told b) → a ≡ b
  entry_determined row = told_one lim (λ t. entry_at t row) store

  -- CHANNEL-DETERMINED: and that of the call for a channel
  pub channel_determined : (n : ℕ) (a b : Result ℕ NoValue) → Answers (tuning lim n store) (told a) → Answers (tuning lim n store) (told b) → a ≡ b
  channel_determined n = told_one lim (λ t. channel_at t n) store

  -- KEY-DETERMINED: and that of the call for the emergency key
  pub key_determined : (a b : Maybe EmergencyKey) → Answers (key_asked lim store) (held a) → Answers (key_asked lim store) (held b) → a ≡ b
  key_determined = held_one lim (λ t. some (key_of t.key)) store

  -- HOME-DETERMINED: and that of the call for the home numbers
  pub home_determined : (a b : Maybe HomeNumbers) → Answers (home_asked lim store) (held a) → Answers (home_asked lim store) (held b) → a ≡ b
  home_determined = held_one lim (λ t. some t.home) store

  -- SYSTEM-DETERMINED: and that of the call for the system code
  pub system_determined : (a b : Maybe SystemCode) → Answers (system_asked lim store) (held a) → Answers (system_asked lim store) (held b) → a ≡ b
  system_determined = held_one lim (λ t. some t.system) store

-- ---- one answer with one buffer

-- digits at the buffer's start, or none
abbrev pub with_digits : List ℕ → Option Number → AfterDigits
with_digits buffer none = stays 17 buffer
with_digits buffer (some ds) = record { number = 0; count = length ds; buffer = written_over ds buffer }

-- the number says which case it is
abbrev digits_back : AfterDigits → Result ℕ NoValue
digits_back a = cond (eqb a.number 0) (Ok a.count) (Err (why_of a.number))

digits_read : (a : Result ℕ NoValue) (x : List ℕ) → digits_back (digits_told a x) ≡ a
digits_read (Ok n) x = refl
digits_read (Err NotAStore) x = refl
digits_read (Err BufferSize) x = refl
digits_read (Err Absent) x = refl

buffer_read : (a : Result ℕ NoValue) (x : List ℕ) → (digits_told a x).buffer ≡ x
buffer_read (Ok n) x = refl
buffer_read (Err why) x = refl

module _ (lim : Limits) (row : Row) (store buffer : List ℕ) where
  abbrev DigitsFoot : AfterDigits → Type 0
  DigitsFoot a = (t : Tables) × Holds lim t store × (ds : Number) × (number_at t row ≡ some ds) × (a ≡ with_digits buffer (some ds))

  digits_foot : (a b : AfterDigits) → DigitsFoot a → DigitsFoot b → a ≡ b
  digits_foot a b (t, h, ds, e, p) (u, k, es, d, q) =
      p ∙ ap (with_digits buffer) (sym e ∙ ap (λ (v : Tables). number_at v row) (one_tables lim store t u h k) ∙ d) ∙ sym q

  -- one number with its count and its buffer
  pub digits_one : (a b : AfterDigits) → Answers (writing_digits lim row store buffer) a → Answers (writing_digits lim row store buffer) b → a ≡ b
  digits_one = one_answer (writing_digits lim row store buffer) digits_foot

  -- DIGITS-DETERMINED: the contract of the call for a row's digits allows one answer of the code, and one buffer afterwards
  pub digits_determined : (a b : Result ℕ NoValue) (x y : List ℕ) → Answers (writing_digits lim row store buffer) (digits_told a x) → Answers (writing_digits lim row store buffer) (digits_told b y) → (a ≡ b) × (x ≡ y)
  digits_determined a b x y p q =
      let e = digits_one (digits_told a x) (digits_told b y) p q in
      (sym (digits_read a x) ∙ ap digits_back e ∙ digits_read b y, sym (buffer_read a x) ∙ ap (λ (r : AfterDigits). r.buffer) e ∙ buffer_read b y)

-- ---- what the tables have there

-- what stands there, as an answer
abbrev asked : {A : Type 0} → Option A → Asked A
asked none = refused 17
asked (some a) = given a

asked_value : {A : Type 0} (o : Option A) → (asked o).value ≡ o
asked_value none = refl
asked_value (some a) = refl

module _ {A : Type 0} (lim : Limits) (what : Tables → Option A) (store : List ℕ) (t : Tables) (room : Roomy lim) (h : Holds lim t store) (a : Asked A) (x : Answers (asking lim what store) a) where
  -- the answer is what the tables have
  asked_has : a ≡ asked (what t)
  asked_has = go (what t) refl
    where
      go : (o : Option A) → what t ≡ o → a ≡ asked o
      go none e = asked_one lim what store a (refused 17) x (is_absent lim what store (holds_store lim t store room h) (λ u k. ap what (one_tables lim store u t k h) ∙ e))
      go (some v) e = asked_one lim what store a (given v) x (is_given lim what store (holds_store lim t store room h) v (λ u k. ap what (one_tables lim store u t k h) ∙ e))

  -- and only that
  asked_is : (o : Option A) → (a ≡ asked o) ↔ (what t ≡ o)
  asked_is o = (λ e. decoded asked (λ (b : Asked A). b.value) asked_value (what t) o (sym asked_has ∙ e), λ e. asked_has ∙ ap asked e)

-- digits are read back from a buffer that they were written to
digits_kept : (buffer : List ℕ) (o p : Option Number) → with_digits buffer o ≡ with_digits buffer p → o ≡ p
digits_kept buffer = decoded (with_digits buffer) back read
  where
    back : AfterDigits → Option Number
    back a = cond (eqb a.number 0) (some (take a.count a.buffer)) none

    read : (o : Option Number) → back (with_digits buffer o) ≡ o
    read none = refl
    read (some ds) = ap some (take_at ds (drop (length ds) buffer) (length ds) refl)

-- a store of tables t
module _ (lim : Limits) (store : List ℕ) (t : Tables) (room : Roomy lim) (h : Holds lim t store) where
  -- ENTRY-IS: the entry of a row is answered exactly if the tables have it there, and 17 exactly if they have none
  pub entry_is : (row : Row) (a : Asked Target) → Answers (entering lim row store) a
      → ((x : Target) → (a ≡ given x) ↔ (entry_at t row ≡ some x)) × ((a ≡ refused 17) ↔ (entry_at t row ≡ none))
  entry_is row a x = let e = asked_is lim (λ u. entry_at u row) store t room h a x in (λ v. e (some v), e none)

  -- CHANNEL-IS: and so the channel of a position
  pub channel_is : (n : ℕ) (a : Asked ℕ) → Answers (tuning lim n store) a → ((c : ℕ) → (a ≡ given c) ↔ (channel_at t n ≡ some c)) × ((a ≡ refused 17) ↔ (channel_at t n ≡ none))
  channel_is n a x = let e = asked_is lim (λ u. channel_at u n) store t room h a x in (λ c. e (some c), e none)

  -- FIXED-ARE: the key, the home numbers and the system code answered are those of the tables
  pub fixed_are : ((a : Asked EmergencyKey) → Answers (key_asked lim store) a → a ≡ given (key_of t.key))
      × ((a : Asked HomeNumbers) → Answers (home_asked lim store) a → a ≡ given t.home) × ((a : Asked SystemCode) → Answers (system_asked lim store) a → a ≡ given t.system)
  fixed_are = (asked_has lim (λ u. some (key_of u.key)) store t room h, asked_has lim (λ u. some u.home) store t room h, asked_has lim (λ u. some u.system) store t room h)

  module _ (row : Row) (buffer : List ℕ) (long : 18 ≤ length buffer) (a : AfterDigits) (x : Answers (writing_digits lim row store buffer) a) where
    digits_has : a ≡ with_digits buffer (number_at t row)
    digits_has = go (number_at t row) refl
      where
        same : (o : Option Number) → number_at t row ≡ o → (u : Tables) → Holds lim u store → number_at u row ≡ o
        same o e u k = ap (λ (v : Tables). number_at v row) (one_tables lim store u t k h) ∙ e

        go : (o : Option Number) → number_at t row ≡ o → a ≡ with_digits buffer o
        go none e = digits_one lim row store buffer a (stays 17 buffer) x (inr (λ s. omega arith, inr (λ n. n (holds_store lim t store room h), inl (same none e, refl))))
        go (some ds) e =
            digits_one lim row store buffer a (with_digits buffer (some ds)) x
            (inr (λ s. omega arith, inr (λ n. n (holds_store lim t store room h), inr (λ n. option_none_ne_some ds (sym (n t h) ∙ e), (t, h, ds, e, refl)))))

    -- DIGITS-ARE: the digits of a row are written exactly if the tables have them there, and 17 is answered exactly if they have none
    pub digits_are : ((ds : Number) → (a ≡ with_digits buffer (some ds)) ↔ (number_at t row ≡ some ds)) × ((a ≡ stays 17 buffer) ↔ (number_at t row ≡ none))
    digits_are = (λ ds. both (some ds), both none)
      where
        both : (o : Option Number) → (a ≡ with_digits buffer o) ↔ (number_at t row ≡ o)
        both o = (λ e. digits_kept buffer (number_at t row) o (sym digits_has ∙ e), λ e. digits_has ∙ ap (with_digits buffer) e)

-- ---- all channels

-- the positions before n
abbrev pub positions : ℕ → List ℕ
positions zero = []
positions (suc n) = positions n ++ (n ∷ [])

-- what a list has at the positions before n are its first n
at_positions : {A : Type 0} (xs : List A) (d : A) (n : ℕ) → n ≤ length xs → map (λ i. get_or xs i d) (positions n) ≡ take n xs
at_positions xs d zero h = refl
at_positions xs d (suc n) h =
    map-append (λ i. get_or xs i d) (positions n) (n ∷ []) ∙ ap (λ ys. ys ++ (get_or xs n d ∷ [])) (at_positions xs d n (omega arith)) ∙ sym (take-suc xs n d h)

-- a place that has an entry is one of the list's
at_low : {A : Type 0} (ls : List A) (n : ℕ) (a : A) → get_or (map some ls) n none ≡ some a → n < length ls
at_low [] n a e = absurd (option_none_ne_some a e)
at_low (x ∷ ls) zero a e = omega arith
at_low (x ∷ ls) (suc n) a e = let h : n < length ls = at_low ls n a e in omega arith

-- CHANNELS-THERE: the tables have a channel at each position before their number of channels, and at no other; in this order they are the table's
pub channels_there : (t : Tables) → ((n : ℕ) → ((c : ℕ) × (channel_at t n ≡ some c)) ↔ (n < length t.channels))
    × (map (channel_at t) (positions (length t.channels)) ≡ map some t.channels)
channels_there t =
    let many : length (map some t.channels) ≡ length t.channels = length-map t.channels some in (
      λ n. (λ p. at_low t.channels n p.0 p.1, at_some t.channels n),
      at_positions (map some t.channels) none (length t.channels) (omega arith) ∙ take_all (length t.channels) (map some t.channels) (omega arith),
    )

-- what is the same everywhere makes the same list
same_map : {A B : Type 0} (f g : A → B) → ((a : A) → f a ≡ g a) → (xs : List A) → map f xs ≡ map g xs
same_map f g e [] = refl
same_map f g e (x ∷ xs) = ap₂ (λ y ys. y ∷ ys) (e x) (same_map f g e xs)

-- CHANNELS-ALL: of a store, positions 0 up to the number of channels, and no other, are answered, and the list of their answers is the table's
pub channels_all : (lim : Limits) (store : List ℕ) (t : Tables) → Roomy lim → Holds lim t store → (answer : ℕ → Asked ℕ) → ((n : ℕ) → Answers (tuning lim n store) (answer n))
    → ((n : ℕ) → ((c : ℕ) × (answer n ≡ given c)) ↔ (n < length t.channels)) × (map answer (positions (length t.channels)) ≡ map given t.channels)
channels_all lim store t room h answer x =
    let (low, all) = channels_there t in
    let is : (n c : ℕ) → (answer n ≡ given c) ↔ (channel_at t n ≡ some c) = λ n. (channel_is lim store t room h n (answer n) (x n)).0 in (
      λ n. (λ p. (low n).0 (p.0, (is n p.0).0 p.1), λ l. let (c, e) = (low n).1 l in (c, (is n c).1 e)),
      same_map answer (λ n. asked (channel_at t n)) (λ n. asked_has lim (λ u. channel_at u n) store t room h (answer n) (x n)) (positions (length t.channels))
          ∙ sym (map-map asked (channel_at t) (positions (length t.channels))) ∙ ap (map asked) all ∙ map-map asked some t.channels,
    )

-- ---- a fresh store

-- an empty table has nothing
gone : {A B : Type 0} (f : A → B) (k n : ℕ) → of f (get_or (replicate k none) n none) ≡ none
gone f zero n = refl
gone f (suc k) zero = refl
gone f (suc k) (suc n) = gone f k n

entry_gone : (row : Row) → entry_at fresh row ≡ none
entry_gone (Line n) = refl
entry_gone (QuickText n) = refl
entry_gone (StatusText n) = refl
entry_gone (Group n) = gone group_target slot_places n
entry_gone (Individual n) = gone individual_target slot_places n
entry_gone (GroupContact n) = refl
entry_gone (IndividualContact n) = refl
entry_gone (LineSlot n) = gone line_target slot_places n
entry_gone NoTable = refl

number_gone : (row : Row) → number_at fresh row ≡ none
number_gone (Line n) = refl
number_gone (QuickText n) = refl
number_gone (StatusText n) = refl
number_gone (Group n) = refl
number_gone (Individual n) = refl
number_gone (GroupContact n) = refl
number_gone (IndividualContact n) = refl
number_gone (LineSlot n) = gone (λ (l : LineEntry). l.number) slot_places n
number_gone NoTable = refl

module _ (lim : Limits) (room : Roomy lim) (store : List ℕ) (new : store ≡ layout lim fresh) where
  -- its bytes are those of no entries
  holds_fresh : Holds lim fresh store
  holds_fresh = (fresh_allowed lim, new)

  -- ENTRY-FRESH: behind no row of a fresh store does anything stand
  pub entry_fresh : (row : Row) → (entry_at fresh row ≡ none) × ((a : Asked Target) → Answers (entering lim row store) a → a ≡ refused 17)
  entry_fresh row = (entry_gone row, λ a x. (entry_is lim store fresh room holds_fresh row a x).1.1 (entry_gone row))

  -- DIGITS-FRESH: no row of it has digits
  pub digits_fresh : (row : Row) → (number_at fresh row ≡ none) × ((buffer : List ℕ) → 18 ≤ length buffer → (a : AfterDigits) → Answers (writing_digits lim row store buffer) a → a ≡ stays 17 buffer)
  digits_fresh row = (number_gone row, λ buffer l a x. (digits_are lim store fresh room holds_fresh row buffer l a x).1.1 (number_gone row))

  -- CHANNEL-FRESH: and no position a channel
  pub channel_fresh : (n : ℕ) → (channel_at fresh n ≡ none) × ((a : Asked ℕ) → Answers (tuning lim n store) a → a ≡ refused 17)
  channel_fresh n = (refl, λ a x. (channel_is lim store fresh room holds_fresh n a x).1.1 refl)

  -- FIXED-FRESH: its key calls the current place, with no flag, and its numbers are 0
  pub fixed_fresh : ((a : Asked EmergencyKey) → Answers (key_asked lim store) a → a ≡ given (record { target = Current false; flags = record { voice = false; status = false; siren = false } }))
      × ((a : Asked HomeNumbers) → Answers (home_asked lim store) a → a ≡ given (record { nzi = 0; np = 0 }))
      × ((a : Asked SystemCode) → Answers (system_asked lim store) a → a ≡ given (record { lai = 0; la = 0; roaming = 0; par = false }))
  fixed_fresh = fixed_are lim store fresh room holds_fresh
