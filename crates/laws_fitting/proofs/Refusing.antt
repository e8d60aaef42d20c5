-- Taking a part that does not fit: 12 where its request is too long, else 2 at the first setting without a place or without room for its texts. Assumes nothing.
use Rattle.lists.proofs.Kit.{ℕ, suc, ◌+◌, ◌≤◌, ◌<◌, ◌≡◌, refl, sym, ap, ◌∙◌, subst, subst⁻¹, ◌⊎◌, inl, inr, Bool, cond, List, [], ◌∷◌, ◌++◌, map, Option, none, some, option_some_ne_none, arith, length, take, drop, get_or, le-leb, length-map, length-take-le, take_all, take_at, split_at}
use borrow.Author.Tests.{lt-leb}
use native.Mathlib.Decide.{dec_le}
use Rattle.lists.specs.Bytes.{Bytes}
use Rattle.lists.proofs.Bytes.{all_bytes, bytes_append}
use Rattle.lists.proofs.Every.{all_left, all_turn}
use Rattle.lists.specs.Ladder.{Answers}
use Rattle.counted_lists.specs.Counted.{Without, Distinct}
use Rattle.counted_lists.proofs.KeyedLists.{others_without}
use Rattle.writing.specs.declared.Operation.TheVariants.{Add, Replace}
use Rattle.writing.specs.Canonical.{canonical, canonical_all}
use Rattle.writing.specs.Ranges.{text_limits, InRange}
use Rattle.writing.specs.Settings.{Setting, lines, unicode16}
use Rattle.writing.specs.Writing.{fields}
use Rattle.writing.proofs.CanonicalLaws.{plain_bytes, canonical_all_written}
use Rattle.tables.specs.declared.limits.Limits.{Limits}
use Rattle.tables.specs.Allowed.{Allowed}
use Rattle.tables.specs.Apply.{in_turn, channel_step, change, apply}
use Rattle.tables.specs.Forms.{Roomy}
use Rattle.tables.specs.Store.{Holds}
use Rattle.tables.specs.Tables.{Line, line_key, Tables}
use Rattle.tables.specs.Texts.{text_sum, TextRoom, Passes, WhereShared}
use Rattle.tables.proofs.AllowedLaws.{forget_allowed}
use Rattle.shared_texts.proofs.Forms.{holds_store}
use Rattle.shared_texts.proofs.RoomLaws.{turn_change}
use Rattle.tables.proofs.RoomSentences.{Stuck, no_room, channel_no_room}
use Rattle.tables.proofs.FormLaws.{shared_then}
use Rattle.requests.specs.Judge.{refused}
use Rattle.requests.specs.Requests.{forget}
use Rattle.station.specs.Taking.{AfterTaking, stays, settled, taken}
use Rattle.station.proofs.TakeLaws.{request_answers}
use Rattle.laws_taking.proofs.Determined.{outcome_determined}
use Rattle.laws_joining.proofs.OneRequest.{stuck_judged}
use Rattle.export_write.specs.LineSettings.{no_line_flags, line_add}
use Rattle.export.specs.declared.parts.Part.{Part}
use Rattle.export.specs.declared.parts.Part.TheVariants.{Lines, Fixed, QuickTexts, Channels, StatusTexts, Groups, Individuals, GroupContacts, IndividualContacts, LineSlots}
use Rattle.export.specs.Exportable.{Exportable}
use Rattle.export.specs.Exported.{exported, request_bytes}
use Rattle.restore.specs.Restored.{PlacesFor, carried, texts_before, texts_upto, PartFits, first_past, HasRoom}
use Rattle.restore.proofs.FirstPast.{past_end, past_same}
use Rattle.restore.proofs.Fitting.{AllReadable, exported_readable}
use Rattle.restore.proofs.FreshParts.{Coming, coming_fresh, coming_held, coming_stuck}
use Rattle.restore.proofs.FreshRuns.{taken_within, lines_none, lines_short, channels_none, channels_short}
use Rattle.restore.proofs.PartRuns.{channels_turn}
use Rattle.restore.proofs.Requests.{request_in_size, exported_is}
use Rattle.restore.proofs.Restored.{ComesTo}
use Rattle.restore.proofs.TextRooms.{less_room, room_or_past}
use Rattle.laws_fitting.specs.Fits.{with_places, first_without, Refuses}
use Rattle.laws_fitting.proofs.Deciding.{places?}

-- ---- more entries than places

-- as many as there are places, the next one, and those behind it
record Over {A : Type 0} (room : ℕ) (l : List A) : Type 0 where
  placed : List A
  next : A
  behind : List A
  parts : l ≡ placed ++ next ∷ behind
  many : length placed ≡ room

over : {A : Type 0} (room : ℕ) (l : List A) → room < length l → Over room l
over room [] h = absurd (omega (arith, h))
over room (x ∷ l) h = record {
  placed = take room (x ∷ l);
  next = get_or (x ∷ l) room x;
  behind = drop (suc room) (x ∷ l);
  parts = split_at (x ∷ l) room x h;
  many = length-take-le room (x ∷ l) (omega arith);
}

-- no key stands twice in a part of a list in which none does
distinct_left : {A K : Type 0} (key : A → K) (a b : List A) → Distinct key (a ++ b) → Distinct key a
distinct_left key [] b d = tt
distinct_left key (x ∷ a) b d = (all_left _ a b d.0, distinct_left key a b d.1)

-- ---- the setting that lacks room

-- lines are cleared first
abbrev clear : Setting
clear = lines Replace no_line_flags []

module _ (to : Limits) (t : Tables) where
  -- of a part that has places, all settings do
  all_with_places : (p : Part) → PlacesFor to t p → with_places to t p ≡ exported p t
  all_with_places Lines h = ap (λ (ls : List Line). clear ∷ map line_add ls) (take_all to.lines t.lines h)
  all_with_places Fixed h = refl
  all_with_places QuickTexts h = refl
  all_with_places Channels h = ap (λ (b : Bool). cond b (exported Channels t) []) (le-leb (length t.channels) to.channels h)
  all_with_places StatusTexts h = refl
  all_with_places Groups h = refl
  all_with_places Individuals h = refl
  all_with_places GroupContacts h = refl
  all_with_places IndividualContacts h = refl
  all_with_places LineSlots h = refl

  -- FIRST LINE: of more lines than places, where the texts of those that have places have room, the first setting without room is the add of the first line without a place
  pub first_line : to.lines < length t.lines → TextRoom to.texts (carried (with_places to t Lines)) → first_without to t Lines ≡ to.lines + 2
  first_line h r =
      let placed : List Line = take to.lines t.lines in
      let n : length (with_places to t Lines) ≡ to.lines + 1 = omega (arith, length-map placed line_add, length-take-le to.lines t.lines (omega (arith, h))) in
      omega (arith, past_end to.texts 0 (with_places to t Lines) (less_room to.texts (0 + carried (with_places to t Lines)) (carried (with_places to t Lines)) (omega arith) r))

  -- FIRST CHANNEL: of more channels than places, it is their one setting
  pub first_channel : to.channels < length t.channels → first_without to t Channels ≡ 1
  first_channel h =
      ap (λ (b : Bool). first_past to.texts (texts_before t Channels) (cond b (exported Channels t) [])) (lt-leb (length t.channels) to.channels h)

module _ (from to : Limits) (t : Tables) (ok : Allowed from t) where
  -- more lines than places, none with the key of another
  record LinesOver : Type 0 where
    over_places : Over to.lines t.lines
    apart : Distinct line_key over_places.placed
    new : Without line_key (line_key over_places.next) over_places.placed

  lines_over : to.lines < length t.lines → LinesOver
  lines_over h =
      let o : Over to.lines t.lines = over to.lines t.lines h in
      let d : Distinct line_key (o.placed ++ o.next ∷ o.behind) = subst (Distinct line_key) o.parts ok.distinct in
      record {
        over_places = o;
        apart = distinct_left line_key o.placed (o.next ∷ o.behind) d;
        new = (others_without line_key o.placed o.next o.behind d).0;
      }

  -- channels that do not all have a place
  channels_over : to.channels < length t.channels → in_turn (channel_step to.channels Add) t.channels [] ≡ none
  channels_over h =
      let o : Over to.channels t.channels = over to.channels t.channels h in
      let few : length o.placed ≤ to.channels = omega (arith, o.many) in
      (no_room (channel_step to.channels Add) t.channels []).1 (record {
        done = o.placed;
        entry = o.next;
        rest = o.behind;
        split = o.parts;
        table = o.placed;
        came = channels_turn to.channels [] o.placed (omega (arith, few));
        full = (channel_no_room to.channels o.next o.placed few).1 o.many;
      })

  -- ---- in a set that comes to a part

  module _ (u : Tables) (old : Allowed to u) (ps : List Part) where
    -- the settings before it have room, and so many they are
    abbrev Lacks : Part → Type 0
    Lacks p = (s : Stuck (apply to) (exported p t) (forget u)) × (length s.done + 1 ≡ first_without to t p)

    -- the texts that are held are those of the parts before
    held : (p : Part) (l : List Setting) → WhereShared to.texts (Coming t (p ∷ ps) u) → first_past to.texts (text_sum (forget u)) l ≡ first_past to.texts (texts_before t p) l
    held p l c = past_same to.texts (text_sum u) (texts_before t p) l (shared_then to.texts (coming_held t u p ps) c)

    -- the add of the first line without a place, or a setting before it with which the texts pass the area
    lines_lack : WhereShared to.texts (Coming t (Lines ∷ ps) u) → to.lines < length t.lines → Lacks Lines
    lines_lack c h =
        let l : LinesOver = lines_over h in
        let o : Over to.lines t.lines = l.over_places in
        let (s, e) = lines_short to t (forget u) o.placed o.next o.behind o.parts o.many l.apart l.new
        (shared_then to.texts (coming_fresh t u Lines ps) c) old.texts in
        let those : take to.lines t.lines ≡ o.placed = ap (take to.lines) o.parts ∙ take_at o.placed (o.next ∷ o.behind) to.lines o.many in
        (s, e ∙ held Lines (clear ∷ map line_add o.placed) c ∙ ap (λ (ls : List Line). first_past to.texts (texts_before t Lines) (clear ∷ map line_add ls)) (sym those))

    -- the one setting of channels
    channels_lack : to.channels < length t.channels → Lacks Channels
    channels_lack h = let (s, e) = channels_short to t (forget u) (channels_over h) old.texts in (s, e ∙ sym (first_channel to t h))

    -- a part has no places only for lines and channels
    no_place : (p : Part) → WhereShared to.texts (Coming t (p ∷ ps) u) → (PlacesFor to t p → ⊥) → Lacks p
    no_place Lines c n = lines_lack c (omega (arith, n))
    no_place Fixed c n = absurd (n tt)
    no_place QuickTexts c n = absurd (n tt)
    no_place Channels c n = channels_lack (omega (arith, n))
    no_place StatusTexts c n = absurd (n tt)
    no_place Groups c n = absurd (n tt)
    no_place Individuals c n = absurd (n tt)
    no_place GroupContacts c n = absurd (n tt)
    no_place IndividualContacts c n = absurd (n tt)
    no_place LineSlots c n = absurd (n tt)

    -- a part that has places and does not fit lacks room for its texts
    lacks : (p : Part) → WhereShared to.texts (Coming t (p ∷ ps) u) → (PlacesFor to t p → TextRoom to.texts (texts_upto t p) → ⊥) → Lacks p
    lacks p c n = by (places? to t p) (room_or_past to.texts (texts_upto t p))
      where
        by : Dec (PlacesFor to t p) → TextRoom to.texts (texts_upto t p) ⊎ Passes to.texts (texts_upto t p) → Lacks p
        by (no m) r = no_place p c m
        by (yes h) (inl r) = absurd (n h r)
        by (yes h) (inr r) =
            let (s, e) = coming_stuck from to t u ok old p h ps c r in
            (s, e ∙ ap (first_past to.texts (texts_before t p)) (sym (all_with_places to t p h)))

  -- ---- in any set

  -- a part whose settings change the tables in turn has places
  has_places : (p : Part) (u v : Tables) → in_turn (change to) (exported p t) u ≡ some v → PlacesFor to t p
  has_places Lines u v e = by (dec_le (length t.lines) to.lines)
    where
      by : Dec (length t.lines ≤ to.lines) → length t.lines ≤ to.lines
      by (yes h) = h
      by (no n) =
          let l : LinesOver = lines_over (omega (arith, n)) in
          let o : Over to.lines t.lines = l.over_places in
          absurd (option_some_ne_none v (sym e ∙ lines_none to t u o.placed o.next o.behind o.parts o.many l.apart l.new))
  has_places Fixed u v e = tt
  has_places QuickTexts u v e = tt
  has_places Channels u v e = by (dec_le (length t.channels) to.channels)
    where
      by : Dec (length t.channels ≤ to.channels) → length t.channels ≤ to.channels
      by (yes h) = h
      by (no n) = absurd (option_some_ne_none v (sym e ∙ channels_none to t u (channels_over (omega (arith, n)))))
  has_places StatusTexts u v e = tt
  has_places Groups u v e = tt
  has_places Individuals u v e = tt
  has_places GroupContacts u v e = tt
  has_places IndividualContacts u v e = tt
  has_places LineSlots u v e = tt

  -- so where they have room in turn, they leave the part's tables as t has them, whatever was held
  has_room : (u : Tables) → Allowed to u → (p : Part) (v : Tables) → in_turn (apply to) (exported p t) (forget u) ≡ some v → HasRoom to t p u
  has_room u old p v e =
      let places : PlacesFor to t p = has_places p (forget u) v (turn_change to (exported p t) (forget u) v e) in
      e ∙ ap some (taken_within from to t (forget u) ok (forget_allowed to u old) p places v e).0

-- ---- what it is answered

-- settings are written in bytes
in_bytes : (ss : List Setting) → Bytes (canonical_all unicode16 ss)
in_bytes [] = all_bytes [] tt
in_bytes (s ∷ ss) =
    bytes_append (canonical unicode16 s) (canonical_all unicode16 ss) (all_bytes (canonical unicode16 s) (plain_bytes (fields unicode16 s))) (in_bytes ss)

module _ (from to : Limits) (x : Exportable from) (room : Roomy to) (t : Tables) (ok : Allowed from t) (u : Tables) (store : List ℕ) (holds : Holds to u store)
    (reply : List ℕ) (long : 20 ≤ length reply) (p : Part) where
  -- an answer to the part
  abbrev AnsweredAs : AfterTaking → Type 0
  AnsweredAs a = Answers (taken to (request_bytes (exported p t)) store reply) a

  -- a request that is too long is refused with 12
  too_long : to.message < length (request_bytes (exported p t)) → AnsweredAs (stays to (request_bytes (exported p t)) store reply 12)
  too_long h = inr (λ n. omega (arith, long), inr (λ n. n (holds_store to u store room holds), inl (λ i. omega (arith, i.1, h), refl)))

  -- what is left by one that is refused at a setting
  abbrev stuck_at : ℕ → AfterTaking
  stuck_at n = settled to (request_bytes (exported p t)) store reply (refused 2 n)

  -- where a setting lacks room after those that had, one that is not too long is refused there
  stuck_answers : length (request_bytes (exported p t)) ≤ to.message → (s : Stuck (apply to) (exported p t) (forget u)) → AnsweredAs (stuck_at (length s.done + 1))
  stuck_answers l s =
      let r : AllReadable _ (exported p t) = exported_readable from x t ok p in
      request_answers to (request_bytes (exported p t)) store reply (stuck_at (length s.done + 1)) long (holds_store to u store room holds) u holds
      (request_in_size to.message (exported p t) l) (
        unicode16,
        length (exported p t),
        canonical_all unicode16 (exported p t),
        exported_is from x t ok p,
        refused 2 (length s.done + 1),
        stuck_judged unicode16 to (exported p t) (forget u) (canonical_all unicode16 (exported p t)) (in_bytes (exported p t))
            (canonical_all_written unicode16 (exported p t) r.fits)
            (all_turn (λ s. (left : ℕ) → InRange text_limits left s) (InRange text_limits 1) (λ s i. i 1) (exported p t) r.ranged) s,
        refl,
      )

  -- nothing else is answered
  the_one : (a b : AfterTaking) → AnsweredAs a → AnsweredAs b → a ≡ b
  the_one a b = outcome_determined to (request_bytes (exported p t)) store reply a b

  -- TAKEN TURN: a part that is answered 0 is not too long, and its settings have room in turn, whatever was held
  pub taken_turn : (a : AfterTaking) → AnsweredAs a → a.answer.number ≡ 0 → (length (request_bytes (exported p t)) ≤ to.message) × HasRoom to t p u
  taken_turn a h z = by (dec_le (length (request_bytes (exported p t))) to.message) (in_turn (apply to) (exported p t) (forget u)) refl
    where
      by : Dec (length (request_bytes (exported p t)) ≤ to.message) → (o : Option Tables) → in_turn (apply to) (exported p t) (forget u) ≡ o
          → (length (request_bytes (exported p t)) ≤ to.message) × HasRoom to t p u
      by (no n) o e = absurd (omega (arith, z, ap (λ (y : AfterTaking). y.answer.number) (the_one a _ h (too_long (omega (arith, n))))))
      by (yes l) none e =
          absurd (omega (arith, z, ap (λ (y : AfterTaking). y.answer.number) (the_one a _ h (stuck_answers l ((no_room (apply to) (exported p t) (forget u)).0 e)))))
      by (yes l) (some v) e = (l, has_room from to t ok u holds.0 p v e)

  module _ (ps : List Part) (comes : ComesTo from to x room t ok (p ∷ ps) u) (misfit : PartFits to t p → ⊥) where
    -- an answer that taking allows, and that it is this refusal
    abbrev Answered : Type 0
    Answered = (a : AfterTaking) × AnsweredAs a × Refuses to t p store a

    -- PART REFUSED: one of the two is answered
    pub part_refused : Answered
    part_refused = by (dec_le (length (request_bytes (exported p t))) to.message)
      where
        by : Dec (length (request_bytes (exported p t)) ≤ to.message) → Answered
        by (no n) = (
          stays to (request_bytes (exported p t)) store reply 12,
          too_long (omega (arith, n)),
          record { too_long = λ _. (refl, refl); no_room = λ l. absurd (n l); stays = refl },
        )
        by (yes l) =
            let (s, e) = lacks from to t ok u holds.0 ps p comes (λ h r. misfit (record { request = l; places = h; texts = r })) in
            (stuck_at (length s.done + 1), stuck_answers l s, record { too_long = λ h. absurd (omega (arith, l, h)); no_room = λ _. (refl, e); stays = refl })

    -- and nothing else
    pub surely_refused : (a : AfterTaking) → AnsweredAs a → Refuses to t p store a
    surely_refused a h = subst⁻¹ (Refuses to t p store) (the_one a part_refused.0 h part_refused.1) part_refused.2
