-- What stands behind a row and the settings, packed: what a store's tables have fits its bits. Assumes nothing.
use Rattle.lists.proofs.Kit.{ℕ, zero, suc, ◌≤◌, ◌<◌, ◌≡◌, refl, sym, subst, Bool, false, inl, inr, List, [], ◌∷◌, map, length, Option, none, some, option_some_injective, option_none_ne_some, get_or, arith}
use Rattle.lists.specs.Every.{All}
use Rattle.lists.specs.Ladder.{Answers}
use Rattle.lists.proofs.Every.{all_map}
use Rattle.slots.specs.Slots.{Present}
use Rattle.writing.specs.declared.KeyFlags.{KeyFlags}
use Rattle.writing.specs.declared.KeyTarget.{KeyTarget}
use Rattle.writing.specs.declared.KeyTarget.TheVariants.{Current, ToGroup, ToIndividual}
use Rattle.writing.specs.Canonical.{FitsField}
use Rattle.writing.specs.Fields.{Field}
use Rattle.writing.specs.Ranges.{InChannel}
use Rattle.writing.specs.Settings.{Number}
use Rattle.writing.specs.Writing.{bit}
use Rattle.tables.specs.declared.limits.Limits.{Limits}
use Rattle.tables.specs.Allowed.{LineOk, GroupOk, IndividualOk, TargetOk, Allowed}
use Rattle.tables.specs.Tables.{Line as LineEntry, GroupMember, IndividualMember, Tables}
use Rattle.tables.proofs.EntryCodes.{bit_small}
use Rattle.screen.specs.declared.rows.Row.{Row}
use Rattle.screen.specs.declared.rows.Row.TheVariants.{Line, QuickText, StatusText, Group, Individual, GroupContact, IndividualContact, LineSlot, NoTable}
use Rattle.screen.specs.Rows.{of, row_named}
use Rattle.std.specs.Prelude.{Option as Maybe, Result, Ok, Err}
use Rattle.writing.specs.declared.HomeNumbers.{HomeNumbers}
use Rattle.writing.specs.declared.SystemCode.{SystemCode}
use Rattle.values.specs.declared.answers.EmergencyKey.{EmergencyKey}
use Rattle.values.specs.declared.answers.NoValue.{NoValue}
use Rattle.values.specs.declared.answers.Target.{Target}
use Rattle.values.specs.Digits.{AfterDigits, number_at, digits_told, writing_digits}
use Rattle.values.specs.Values.{Asked, refused, given, asking, line_target, group_target, individual_target, entry_at, told, held, entering, channel_at, tuning, key_asked, home_asked, system_asked}
use Rattle.packing.specs.declared.entries.EntryValues.{EntryValues}
use Rattle.packing.specs.declared.fixed.KeyValues.{KeyValues}
use Rattle.packing.specs.PackedValues.{Packed, WhereFit, entry_values, entry_bits, entry_fields, Enters, digits_fields, WritesDigits, channel_fields, Tunes, calls, key_values, key_bits, key_fields, AnswersKey, home_fields, AnswersHome, system_fields, AnswersSystem}

-- ---- an entry of a table

-- what stands in a place is in range
at_place : {A : Type 0} (P : A → Type 0) (os : List (Option A)) (n : ℕ) (a : A) → All (Present P) os → get_or os n none ≡ some a → P a
at_place P [] n a q e = absurd (option_none_ne_some a e)
at_place P (o ∷ os) zero a q e = subst (Present P) e q.0
at_place P (o ∷ os) (suc n) a q e = at_place P os n a q.1 e

module _ {A B : Type 0} (f : A → B) (P : A → Type 0) (Q : B → Type 0) (has : (a : A) → P a → Q (f a)) (n : ℕ) (b : B) where
  -- and what is told of it has what all in range have
  in_place : (os : List (Option A)) → All (Present P) os → of f (get_or os n none) ≡ some b → Q b
  in_place os q e = told (get_or os n none) (λ a. at_place P os n a q) e
    where
      told : (o : Option A) → ((a : A) → o ≡ some a → P a) → of f o ≡ some b → Q b
      told none h e = absurd (option_none_ne_some b e)
      told (some a) h e = subst Q (option_some_injective (f a) b e) (has a (h a refl))

  -- the same of a list
  in_list : (ls : List A) → All P ls → of f (get_or (map some ls) n none) ≡ some b → Q b
  in_list ls q e = in_place (map some ls) (all_map P (Present P) some (λ a p. p) ls q) e

-- ---- ranges and bits

-- a flag has one bit
one_bit : (b : Bool) → bit b < 2
one_bit b = omega (arith, bit_small b)

entry_bits_fit : (v : EntryValues) (n : ℕ) → v.attribute < 4 → v.priority < 4 → v.address < 16777216 → n < 256 → All FitsField (entry_bits v n)
entry_bits_fit v n t p a h =
    (one_bit v.ovcm, (one_bit v.broadcast, (t, (p, (one_bit v.emergency, (one_bit v.encryption, (one_bit v.idtype, (a, (h, tt)))))))))

key_bits_fit : (v : KeyValues) (n : ℕ) → v.address < 16777216 → n < 256 → All FitsField (key_bits v n)
key_bits_fit v n a h = (one_bit v.siren, (one_bit v.status, (one_bit v.voice, (one_bit v.group, (one_bit v.current, (a, (h, tt)))))))

-- ---- what the tables have

-- every value of what stands there has its bits
abbrev EntryFits : Target → Type 0
EntryFits x = All FitsField (entry_fields (given x))

line_fits : (l : LineEntry) → LineOk l → EntryFits (line_target l)
line_fits l ok = entry_bits_fit (entry_values (some (line_target l))) 0 (omega arith) ok.priority (omega arith) (omega arith)

group_fits : (g : GroupMember) → GroupOk g → EntryFits (group_target g)
group_fits g ok = entry_bits_fit (entry_values (some (group_target g))) 0 ok.attribute.1 ok.priority ok.address.1 (omega arith)

individual_fits : (i : IndividualMember) → IndividualOk i → EntryFits (individual_target i)
individual_fits i ok = entry_bits_fit (entry_values (some (individual_target i))) 0 (omega arith) ok.priority ok.address.1 (omega arith)

module _ (lim : Limits) (t : Tables) (ok : Allowed lim t) where
  entry_fits : (row : Row) (x : Target) → entry_at t row ≡ some x → EntryFits x
  entry_fits (Line n) x e = in_list line_target LineOk EntryFits line_fits n x t.lines ok.lines.1 e
  entry_fits (QuickText n) x e = absurd (option_none_ne_some x e)
  entry_fits (StatusText n) x e = absurd (option_none_ne_some x e)
  entry_fits (Group n) x e = in_place group_target GroupOk EntryFits group_fits n x t.groups ok.groups.1 e
  entry_fits (Individual n) x e = in_place individual_target IndividualOk EntryFits individual_fits n x t.individuals ok.individuals.1 e
  entry_fits (GroupContact n) x e = in_list group_target GroupOk EntryFits group_fits n x t.group_contacts ok.group_contacts.1 e
  entry_fits (IndividualContact n) x e =
      in_list individual_target IndividualOk EntryFits individual_fits n x t.individual_contacts ok.individual_contacts.1 e
  entry_fits (LineSlot n) x e = in_place line_target LineOk EntryFits line_fits n x t.line_slots ok.line_slots.1 e
  entry_fits NoTable x e = absurd (option_none_ne_some x e)

  -- no number has more than 18 digits
  abbrev Short : Number → Type 0
  Short ds = length ds ≤ 18

  digits_short : (row : Row) (ds : Number) → number_at t row ≡ some ds → Short ds
  digits_short (Line n) ds e = in_list (λ (l : LineEntry). l.number) LineOk Short (λ l k. k.number.1) n ds t.lines ok.lines.1 e
  digits_short (QuickText n) ds e = absurd (option_none_ne_some ds e)
  digits_short (StatusText n) ds e = absurd (option_none_ne_some ds e)
  digits_short (Group n) ds e = absurd (option_none_ne_some ds e)
  digits_short (Individual n) ds e = absurd (option_none_ne_some ds e)
  digits_short (GroupContact n) ds e = absurd (option_none_ne_some ds e)
  digits_short (IndividualContact n) ds e = absurd (option_none_ne_some ds e)
  digits_short (LineSlot n) ds e = in_place (λ (l : LineEntry). l.number) LineOk Short (λ l k. k.number.1) n ds t.line_slots ok.line_slots.1 e
  digits_short NoTable ds e = absurd (option_none_ne_some ds e)

-- where the key calls
key_fits : (k : KeyTarget) (f : KeyFlags) → TargetOk k → All FitsField (key_bits (calls k f) 0)
key_fits (Current g) f ok = key_bits_fit (calls (Current g) f) 0 (omega arith) (omega arith)
key_fits (ToGroup a) f ok = key_bits_fit (calls (ToGroup a) f) 0 ok.1 (omega arith)
key_fits (ToIndividual a) f ok = key_bits_fit (calls (ToIndividual a) f) 0 ok.1 (omega arith)

-- ---- what the calls answer

-- what is asked of a store is packed whole, where a refusal fits and so does whatever allowed tables have there
module _ {A : Type 0} (lim : Limits) (what : Tables → Option A) (store : List ℕ) (fields : Asked A → List Field)
    (refusal_fits : (n : ℕ) → n < 256 → All FitsField (fields (refused n)))
    (value_fits : (t : Tables) → Allowed lim t → (v : A) → what t ≡ some v → All FitsField (fields (given v))) where
  fits : (a : Asked A) → Answers (asking lim what store) a → All FitsField (fields a)
  fits a (inl (_, e)) = subst (λ (x : Asked A). All FitsField (fields x)) (sym e) (refusal_fits 11 (omega arith))
  fits a (inr (_, inl (_, e))) = subst (λ (x : Asked A). All FitsField (fields x)) (sym e) (refusal_fits 17 (omega arith))
  fits a (inr (_, inr (_, (t, h, v, there, e)))) = subst (λ (x : Asked A). All FitsField (fields x)) (sym e) (value_fits t h.0 v there)

  asked_packed : (a : Asked A) (r : ℕ) → Answers (asking lim what store) a → WhereFit (fields a) r → Packed (asking lim what store) fields r
  asked_packed a r x p = let f = fits a x in record { answer = a; allowed = x; packs = record { fits = f; bits = p f } }

module _ (lim : Limits) where
  module _ (table index : ℕ) (store : List ℕ) (which : Row) (named : which ≡ row_named table index) where
    -- ENTERS: what stands behind a row
    pub entry_packed : (a : Result Target NoValue) (r : ℕ) → Answers (entering lim which store) (told a) → WhereFit (entry_fields (told a)) r → Enters lim table index store r
    entry_packed a r x p =
        asked_packed lim (λ t. entry_at t (row_named table index)) store entry_fields
        (λ n h. entry_bits_fit (entry_values none) n (omega arith) (omega arith) (omega arith) h)
        (λ t ok v e. entry_fits lim t ok (row_named table index) v e)
        (told a) r (subst (λ (w : Row). Answers (entering lim w store) (told a)) named x) p

    module _ (buffer after : List ℕ) where
      -- a number, and at most 18 digits
      abbrev Small : AfterDigits → Type 0
      Small a = (a.number < 256) × (a.count ≤ 18)

      digits_small : (a : AfterDigits) → Answers (writing_digits lim which store buffer) a → Small a
      digits_small a (inl (_, e)) = subst Small (sym e) (omega arith, omega arith)
      digits_small a (inr (_, inl (_, e))) = subst Small (sym e) (omega arith, omega arith)
      digits_small a (inr (_, inr (_, inl (_, e)))) = subst Small (sym e) (omega arith, omega arith)
      digits_small a (inr (_, inr (_, inr (_, (t, h, ds, there, e))))) = subst Small (sym e) (omega arith, digits_short lim t h.0 which ds there)

      -- an answer with the buffer that it left is packed as with any other
      left : (a : Result ℕ NoValue) → (digits_fields (digits_told a []) ≡ digits_fields (digits_told a after)) × (after ≡ (digits_told a after).buffer)
      left (Ok n) = (refl, refl)
      left (Err why) = (refl, refl)

      -- WRITES DIGITS: the digits behind a row
      pub digits_packed : (a : Result ℕ NoValue) (r : ℕ) → Answers (writing_digits lim which store buffer) (digits_told a after) → WhereFit (digits_fields (digits_told a [])) r
          → WritesDigits lim table index store buffer after r
      digits_packed a r x p =
          let (n, k) = digits_small (digits_told a after) x in
          let f : All FitsField (digits_fields (digits_told a after)) = (omega arith, (n, tt)) in
          let q : WhereFit (digits_fields (digits_told a after)) r = subst (λ fs. WhereFit fs r) (left a).0 p in
          let y = subst (λ (w : Row). Answers (writing_digits lim w store buffer) (digits_told a after)) named x in
          record { packed = record { answer = digits_told a after; allowed = y; packs = record { fits = f; bits = q f } }; leaves = (left a).1 }

  -- TUNES: the channel at a position
  pub channel_packed : (position : ℕ) (store : List ℕ) (a : Result ℕ NoValue) (r : ℕ) → Answers (tuning lim position store) (told a) → WhereFit (channel_fields (told a)) r → Tunes lim position store r
  channel_packed position store a r x p =
      asked_packed lim (λ t. channel_at t position) store channel_fields (λ n h. (omega arith, (h, tt)))
      (λ t ok v e.
      let i : InChannel v = at_place InChannel (map some t.channels) position v (all_map InChannel (Present InChannel) some (λ c q. q) t.channels ok.channels.1) e in
      (omega (arith, i.1), (omega arith, tt)))
      (told a) r x p

  -- KEY: the emergency key
  pub key_packed : (store : List ℕ) (a : Maybe EmergencyKey) (r : ℕ) → Answers (key_asked lim store) (held a) → WhereFit (key_fields (held a)) r → AnswersKey lim store r
  key_packed store a r x p = asked_packed lim _ store key_fields
      (λ n h. key_bits_fit (key_values none) n (omega arith) h)
      (λ t ok v e. subst (λ k. All FitsField (key_fields (given k))) (option_some_injective _ v e) (key_fits t.key.target t.key.flags ok.key))
      (held a) r x p

  -- HOME: the home numbers
  pub home_packed : (store : List ℕ) (a : Maybe HomeNumbers) (r : ℕ) → Answers (home_asked lim store) (held a) → WhereFit (home_fields (held a)) r → AnswersHome lim store r
  home_packed store a r x p = asked_packed lim _ store home_fields (λ n h. (omega arith, (omega arith, (h, tt))))
      (λ t ok v e. subst (λ k. All FitsField (home_fields (given k))) (option_some_injective _ v e) (omega (arith, ok.home.np), (ok.home.nzi, (omega arith, tt))))
      (held a) r x p

  -- SYSTEM: the system code
  pub system_packed : (store : List ℕ) (a : Maybe SystemCode) (r : ℕ) → Answers (system_asked lim store) (held a) → WhereFit (system_fields (held a)) r → AnswersSystem lim store r
  system_packed store a r x p = asked_packed lim _ store system_fields (λ n h. (one_bit false, (omega arith, (omega arith, (omega arith, (h, tt))))))
      (λ t ok v e. subst (λ k. All FitsField (system_fields (given k))) (option_some_injective _ v e)
      (one_bit t.system.par, (omega (arith, ok.system.roaming), (omega (arith, ok.system.la), (ok.system.lai, (omega arith, tt))))))
      (held a) r x p
