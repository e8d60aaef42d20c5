-- The settings of a request judged in turn by numbers: one, one more, and all of them. Assumes nothing.
use Rattle.lists.proofs.Kit.{ℕ, ◌+◌, ◌-◌, ◌≤◌, ◌<◌, ◌≡◌, refl, sym, ap, ◌∙◌, subst, subst⁻¹, List, [], ◌∷◌, ◌++◌, append-nil, append_assoc, Option, none, arith, length, drop, length-append, drop_of_length-le, drop-cons}
use denote.Enum.Declared.{tag_of}
use types.Run.{OneOf, miss}
use Rattle.lists.specs.Bytes.{Bytes}
use Rattle.lists.specs.Every.{All}
use Rattle.lists.proofs.Every.{all_append}
use Rattle.writing.specs.declared.LastFlags.{LastFlags}
use Rattle.writing.specs.declared.CfgResult.TheVariants.{NoRoom}
use Rattle.writing.specs.Canonical.{Fits}
use Rattle.writing.specs.Ranges.{text_limits, InRange, no_hash}
use Rattle.writing.specs.Settings.{Setting}
use Rattle.read_fields.specs.declared.hashes.HashPlace.{HashPlace}
use Rattle.read_fields.specs.Places.{StandsAt}
use Rattle.std.specs.Prelude.{Ok, Err}
use Rattle.read_setting.specs.SettingAt.{SettingAt}
use Rattle.settings.specs.declared.settings.Setting.{Setting as SettingRead}
use Rattle.settings.specs.declared.settings.Setting.TheVariants.{GroupContacts, IndividualContacts, Lines, Key, QuickTexts, Home, Channels, System, StatusTexts, Group, Individual, LineSlot, Last}
use Rattle.settings.specs.contracts.settings.Setting.{the_type}
use Rattle.tables.specs.Limits.{handheld}
use Rattle.tables.specs.Tables.{Tables}
use Rattle.tables.proofs.RoomSentences.{apply_change}
use Rattle.requests.specs.declared.run.Request.{Request}
use Rattle.requests.specs.Judge.{done, taken, over, fault, refused}
use Rattle.requests.specs.Requests.{Runs, Fault, Judged, LastItem, item_of, or_else, last_item}
use Rattle.requests.specs.Running.{FlagsAre}
use Rattle.requests.proofs.RunLaws.{one_more, item_end, stands_in, at_full}
use Rattle.events.specs.Deeds.{deeds, all_deeds}
use Rattle.events.specs.Deeds as D
use Rattle.events.specs.Knowing.{Telling}
use Rattle.events.proofs.InsideLaws.{fits_indexed}
use Rattle.events.proofs.TellingLaws.{telling_setting}
use Rattle.read_deeds.specs.declared.cursors.Cursor.{Cursor}
use Rattle.read_deeds.specs.Cursors.{Standing, AtSettings}
use Rattle.plain_weigh.specs.Weighing.{Short, Read}
use Rattle.plain_judge.specs.declared.judge.Item.{Item}
use Rattle.std.specs.declared.option.Option.TheVariants.{Some, None}
use Rattle.std.specs.declared.result.Result.TheVariants.{Ok, Err}
use Rattle.plain_judge.specs.Judging.{Weights, Logged, HashStands, ItemIs, Ran, TryIs, HashOf, Along, Stepped, StepIs}
use Rattle.plain_judge.proofs.SettingDeeds.{deeds_short, deeds_few}
use Rattle.plain_judge.proofs.Standings.{taken_anywhere, stands_fits, stands_within, standing_end, standing_on, deeds_on, follow_on}

-- ---- where FF's hash stands

-- the place of a hash that is none
abbrev nowhere : HashPlace
nowhere = record { code = 0; start = 0 }

-- a hash of code 0 has no bytes
no_hash_stands : (m : List ℕ) → HashStands m nowhere (last_item []).hash
no_hash_stands m = record { code = refl; size = no_hash; stands = record { bytes = []; rest = m; split = refl; ends = refl; written = refl } }

-- another setting than FF says none
said_none : (m : List ℕ) {s t : Setting} → s ≡ t → item_of t ≡ none → HashStands m nowhere (or_else (item_of s) (last_item [])).hash
said_none m e n =
    subst⁻¹ (λ (x : Option LastItem). HashStands m nowhere (or_else x (last_item [])).hash) (ap item_of e ∙ n) (no_hash_stands m)

-- HASH-LAST: FF says where its own stands
pub hash_last : (f : LastFlags) (p : HashPlace) → HashOf (Last f p) p
hash_last f p m s (v, e, stands, size) =
    subst⁻¹ (λ (x : Setting). HashStands m p (or_else (item_of x) (last_item [])).hash) e (record { code = refl; size = size; stands = stands })

-- HASH-NONE: every other setting, nowhere
pub hash_none : (x : SettingRead) → OneOf (0 ∷ 1 ∷ 2 ∷ 3 ∷ 4 ∷ 5 ∷ 6 ∷ 7 ∷ 8 ∷ 9 ∷ 10 ∷ 11 ∷ []) (tag_of the_type x) → HashOf x nowhere
hash_none (GroupContacts o f p) k m s (es, e, _) = said_none m e refl
hash_none (IndividualContacts o f p) k m s (es, e, _) = said_none m e refl
hash_none (Lines o f p) k m s (es, e, _) = said_none m e refl
hash_none (Key t f) k m s e = said_none m e refl
hash_none (QuickTexts o p) k m s (es, e, _) = said_none m e refl
hash_none (Home h) k m s e = said_none m e refl
hash_none (Channels o p) k m s (es, e, _) = said_none m e refl
hash_none (System x) k m s e = said_none m e refl
hash_none (StatusTexts o p) k m s (es, e, _) = said_none m e refl
hash_none (Group o f p) k m s (es, e, _) = said_none m e refl
hash_none (Individual o f p) k m s (es, e, _) = said_none m e refl
hash_none (LineSlot o f p) k m s (x, e, _) = said_none m e refl
hash_none (Last f p) k m s x = absurd (miss (0 ∷ 1 ∷ 2 ∷ 3 ∷ 4 ∷ 5 ∷ 6 ∷ 7 ∷ 8 ∷ 9 ∷ 10 ∷ 11 ∷ []) 12 tt k)

-- ---- one setting

module _ (log : List ℕ) (n : ℕ) (m : List ℕ) (q : Request) (at so passed : ℕ) (ws : List ℕ) (small : so < 256) where
  -- the deeds before a setting that stands there, and its own
  before_it : (ds : List D.Deed) (was : Tables) (l : List Setting) (t : Tables) (first : Cursor) (s : Setting) (next : ℕ) → AtSettings q.at (so + 1) q.coding first
      → Logged log n ds was → Along m q ds was at so passed ws l t → so < q.count → InRange text_limits (q.count - so - 1) s → StandsAt q.coding m at next s
      → Read log m (record { logged = n; first = first; passed = passed }) ds (all_deeds l) (deeds s)
  before_it ds was l t first s next e g a h i y =
      let d : length l ≡ so = a.count in
      record {
        logged = g.follow;
        log_count = g.count;
        passed = follow_on q.coding m q.at l at next (q.count - so - 1) s so first e d a.stands (taken_anywhere q.coding handheld a.runs (omega arith)) i y;
        count = a.passes;
        few = omega (arith, g.few, a.few, deeds_few q.coding s (stands_fits q.coding m at next s y));
        short_log = g.short;
        short = all_append Short (all_deeds l) (deeds s) a.short (deeds_short (q.count - so - 1) s i);
      }

  module _ (x : SettingRead) (next : ℕ) (first : Cursor) (read : SettingAt q.coding (q.count - so - 1) m at (Ok (x, next))) (e : AtSettings q.at (so + 1) q.coding first) (vs : List ℕ) where
    -- it had room
    pub step_taken : (i : Item) (k : ℕ) → FlagsAre x i.flags → HashOf x i.hash → TryIs log m (record { logged = n; first = first; passed = passed }) x ws vs (Some k)
        → StepIs log n m q at so passed ws vs (Ok (record { next = next; item = i; deeds = k }))
    step_taken i k flags hash tried ds was l t g a h =
        let (s, means, r, y) = read in
        let (u, p, w, d) = tried ds (all_deeds l) s q.coding (q.count - so - 1) t (before_it ds was l t first s next e g a h r y) a.tells a.weights means r (stands_fits q.coding m at next s y) in
        (s, u, record { range = r; stands = y; applied = p; weights = w; item = record { flags = flags m s means; hash = hash m s means } }, d)

    -- or none
    pub step_full : Bytes m → TryIs log m (record { logged = n; first = first; passed = passed }) x ws vs None → StepIs log n m q at so passed ws vs (Err NoRoom)
    step_full b tried ds was l t g a h =
        let (s, means, r, y) = read in
        at_full q.coding handheld m b (q.count - so - 1) t at s next (stands_within q.coding m at next s y) r y
        (tried ds (all_deeds l) s q.coding (q.count - so - 1) t (before_it ds was l t first s next e g a h r y) a.tells a.weights means r (stands_fits q.coding m at next s y))

-- ---- all of them

module _ (m : List ℕ) (q : Request) (ds : List D.Deed) (was : Tables) where
  -- what was taken, and what the last setting says
  abbrev pub Going : (p so passed : ℕ) (ws : List ℕ) → Item → Type 0
  Going p so passed ws i = (l : List Setting) × (t : Tables) × Along m q ds was p so passed ws l t × ItemIs m i (last_item l)

  -- none yet
  pub going_start : (log ws : List ℕ) (n : ℕ) → Logged log n ds was → Weights ws was
      → Going q.at 0 0 ws (record { flags = (last_item []).flags; hash = nowhere })
  going_start log ws n g w = (
    [],
    was,
    record { count = refl; runs = done; stands = refl; passes = refl; few = omega arith; short = tt; tells = subst⁻¹ (λ (x : List D.Deed). Telling handheld x was) (append-nil ds) g.tells; weights = w },
    record { flags = refl; hash = no_hash_stands m },
  )

  module _ (p so passed : ℕ) (ws : List ℕ) (l : List Setting) (t : Tables) (a : Along m q ds was p so passed ws l t) where
    -- one setting more
    module _ (b : Bytes m) (vs : List ℕ) (next k : ℕ) (i : Item) (h : so < q.count) (s : Setting) (u : Tables) (z : Stepped m q (q.count - so - 1) p next t vs i s u) (e : k ≡ passed + length (deeds s)) where
      -- it fits its fields
      fits : Fits q.coding s
      fits = stands_fits q.coding m p next s z.stands

      -- its deeds tell the tables after it
      tells_on : Telling handheld (ds ++ all_deeds (l ++ (s ∷ []))) u
      tells_on =
          subst⁻¹ (λ (x : List D.Deed). Telling handheld x u) (ap (λ x. ds ++ x) (deeds_on l s) ∙ sym (append_assoc ds (all_deeds l) (deeds s)))
          (telling_setting handheld (ds ++ all_deeds l) s t u (q.count - so - 1) a.tells z.range (fits_indexed q.coding (q.count - so - 1) s z.range fits) (apply_change handheld s t u z.applied))

      -- what was taken with it
      along_on : Along m q ds was next (so + 1) k vs (l ++ (s ∷ [])) u
      along_on =
          let d : length l ≡ so = a.count in
          let (w, x, y) = stands_in q.coding handheld m b (q.count - so - 1) was p s next z.stands in
          let many : length (all_deeds (l ++ (s ∷ []))) ≡ length (all_deeds l) + length (deeds s) = ap length (deeds_on l s) ∙ length-append (all_deeds l) (deeds s) in
          record {
            count = length-append l (s ∷ []) ∙ ap (λ (j : ℕ). j + 1) d;
            runs = one_more q.coding handheld (q.count - so - 1) s w (drop next m) a.runs (omega arith) x y z.range z.applied;
            stands = standing_on q.coding m q.at l p next (q.count - so - 1) s a.stands (taken_anywhere q.coding handheld a.runs (omega arith)) z.range z.stands;
            passes = many ∙ ap (λ (j : ℕ). j + length (deeds s)) a.passes ∙ sym e;
            few = omega (arith, e, a.few, deeds_few q.coding s fits);
            short = subst⁻¹ (All Short) (deeds_on l s) (all_append Short (all_deeds l) (deeds s) a.short (deeds_short (q.count - so - 1) s z.range));
            tells = tells_on;
            weights = z.weights;
          }

      -- GOING-ON: and what it says
      pub going_on : Going next (so + 1) k vs i
      going_on =
          let d : length l ≡ so = a.count in
          (l ++ (s ∷ []), u, along_on, subst⁻¹ (ItemIs m i) (item_end q.coding handheld a.runs (omega arith) s) z.item)

    -- the next is at fault
    pub going_fault : (number : ℕ) → so < q.count → Fault q.coding handheld (q.count - so - 1) t (drop p m) number
        → Judged q.coding handheld q.count was (drop q.at m) (refused number (so + 1))
    going_fault number h z =
        let d : length l ≡ so = a.count in
        subst (λ (k : ℕ). Judged q.coding handheld q.count was (drop q.at m) (refused number (k + 1))) d (fault (q.count - so - 1) (omega arith) a.runs z)

    -- bytes are left over
    pub going_over : q.count ≤ so → so ≤ q.count → p < length m → Judged q.coding handheld q.count was (drop q.at m) (refused 4 0)
    going_over x y h =
        let d : length l ≡ so = a.count in
        let r = subst (λ (r : List ℕ). Runs q.coding handheld q.count was (drop q.at m) l t r) (drop-cons m p 0 h) a.runs in
        over {l = l} (omega arith) r

    -- none are
    pub going_end : (i : Item) → ItemIs m i (last_item l) → so < 256 → q.count ≤ so → so ≤ q.count → length m ≤ p → Ran m q ds was ws i passed
    going_end i item small x y h =
        let d : length l ≡ so = a.count in
        let r = subst (λ (r : List ℕ). Runs q.coding handheld q.count was (drop q.at m) l t r) (drop_of_length-le m h) a.runs in
        record {
          settings = l;
          tables = t;
          judged = taken {l = l} (omega arith) r;
          stands = λ inside.
              let j : p ≤ length m = standing_end q.coding m q.at l p a.stands inside in
              let e : p ≡ length m = omega arith in
              subst (Standing q.coding m q.at l) e a.stands;
          count = omega arith;
          tells = a.tells;
          short = a.short;
          weights = a.weights;
          passed = sym a.passes;
          few = omega (arith, a.few);
          item = item;
        }
