-- Deeds that follow a cursor: those of entries, of settings and of requests, in turn. Assumes nothing.
use Rattle.lists.proofs.Kit.{ℕ, ◌+◌, ◌-◌, ◌%◌, ◌≤◌, ◌<◌, ◌≡◌, refl, sym, ap, ap₂, ◌∙◌, subst, subst⁻¹, subst₂, zero-add, List, [], ◌∷◌, ◌++◌, append_assoc, append-nil, head-eq_of_cons-eq, tail-eq_of_cons-eq, cons≢nil, arith, length, drop, get_or, drop-drop, drop-append-le}
use Rattle.lists.specs.Bytes.{Bytes}
use Rattle.writing.specs.declared.Coding.{Coding}
use Rattle.writing.specs.declared.Coding.TheVariants.{Unicode16, EightBit}
use Rattle.writing.specs.Ranges.{text_limits, InRange}
use Rattle.writing.specs.Settings.{Setting}
use Rattle.writing.specs.Fields.{Field}
use Rattle.writing.specs.Writing.{fields}
use Rattle.read_fields.specs.Places.{FieldsAt, StandsAt}
use Rattle.settings.specs.Meant.{Meant}
use Rattle.settings.specs.declared.settings.Setting.{Setting as Read}
use Rattle.read_setting.specs.SettingAt.{SettingAt}
use Rattle.std.specs.Prelude.{Result, Ok, Err}
use Rattle.read_setting.specs.declared.reader.SettingFault.{SettingFault}
use Rattle.read_setting.proofs.Theorems.{Refused, refused_exactly, read_exactly}
use Rattle.events.specs.Deeds.{nothing, deeds, all_deeds}
use Rattle.events.specs.Deeds as D
use Rattle.read_deeds.specs.declared.deeds.Deed.{Deed}
use Rattle.read_deeds.specs.declared.deeds.Deed.TheVariants.{Nothing}
use Rattle.read_deeds.specs.declared.deeds.Left.{Left}
use Rattle.read_deeds.specs.declared.deeds.Turn.{Turn}
use Rattle.read_deeds.specs.declared.cursors.Cursor.{Cursor}
use Rattle.read_deeds.specs.declared.cursors.Moved.{Moved}
use Rattle.read_deeds.specs.ReadDeeds.{none_left, DeedIs, LeftIs, TurnIs, Begins, NextEntry}
use Rattle.read_deeds.specs.Cursors.{Standing, log_deeds, RecordAt, Records, Follow, NextDeed, AtSettings, CodingIs, NextSetting, NextRecord}
use Rattle.read_deeds.proofs.EntryLaws.{left_counted}

-- ---- where deeds begin

module _ (m : List ℕ) (at : ℕ) (c : Coding) where
  -- settings that stand there are followed by their deeds
  pub follow_settings : (n end : ℕ) (r : Cursor) (l : List Setting) → AtSettings at n c r → length l ≡ n → Standing c m at l end → Follow m r (all_deeds l)
  follow_settings n end r l starts counted stands =
      subst⁻¹ (λ (k : Cursor). Follow m k (all_deeds l)) starts
      (record {
        entries = [];
        settings = l;
        requests = [];
        end = end;
        parts = sym (append-nil (all_deeds l));
        left = (refl, refl);
        counted = counted;
        stands = stands;
        behind = tt;
      })

  -- requests that stand there, by theirs
  pub follow_log : (r : Cursor) (ls : List (List Setting)) → AtSettings at 0 c r → Records m at ls → Follow m r (log_deeds ls)
  follow_log r ls starts behind =
      subst⁻¹ (λ (k : Cursor). Follow m k (log_deeds ls)) starts
      (record {
        entries = [];
        settings = [];
        requests = ls;
        end = at;
        parts = refl;
        left = (refl, refl);
        counted = refl;
        stands = refl;
        behind = behind;
      })

-- ---- in other bytes

-- what stands in a message stands where the message does
pub fields_shift : (fs : List Field) (m w rest : List ℕ) (base at next : ℕ) → drop base w ≡ m ++ rest → next ≤ length m → FieldsAt fs m at next → FieldsAt fs w (base + at) (base + next)
fields_shift fs m w rest base at next e short x =
    let inside : at ≤ length m = omega (arith, x.ends) in
    record {
      bytes = x.bytes;
      rest = x.rest ++ rest;
      split = sym (drop-drop at base w) ∙ ap (drop at) e ∙ drop-append-le at m rest inside ∙ ap (λ (l : List ℕ). l ++ rest) x.split ∙ append_assoc x.bytes x.rest rest;
      ends = omega (arith, x.ends);
      written = x.written;
    }

-- settings end no earlier than they begin
standing_on : (c : Coding) (m : List ℕ) (at : ℕ) (l : List Setting) (end : ℕ) → Standing c m at l end → at ≤ end
standing_on c m at [] end e = omega arith
standing_on c m at (s ∷ l) end (next, i, x, more) = omega (arith, x.ends, standing_on c m next l end more)

-- and stand where the message does
pub standing_shift : (c : Coding) (m w rest : List ℕ) (base at : ℕ) (l : List Setting) (end : ℕ) → drop base w ≡ m ++ rest → end ≤ length m → Standing c m at l end → Standing c w (base + at) l (base + end)
standing_shift c m w rest base at [] end e short x = ap (λ (n : ℕ). base + n) x
standing_shift c m w rest base at (s ∷ l) end e short (next, i, x, more) =
    let inside : next ≤ length m = omega (arith, standing_on c m next l end more) in
    (base + next, i, fields_shift (fields c s) m w rest base at next e inside x, standing_shift c m w rest base next l end e short more)

-- what stands in a message stands there with more behind it
pub standing_append : (c : Coding) (m rest : List ℕ) (at : ℕ) (l : List Setting) (end : ℕ) → end ≤ length m → Standing c m at l end → Standing c (m ++ rest) at l end
standing_append c m rest at l end short x =
    subst₂ (λ (i j : ℕ). Standing c (m ++ rest) i l j) (zero-add at) (zero-add end) (standing_shift c m (m ++ rest) rest 0 at l end refl short x)

-- ---- the next of the entries that are left

-- a cursor with these entries left
abbrev with_left : Cursor → Left → Cursor
with_left c l = record { left = l; at = c.at; settings = c.settings; coding = c.coding }

-- the next entry was read
pub entry_moved : (m : List ℕ) (c : Cursor) (t : Turn) → (c.left.count ≡ 0 → ⊥) → NextEntry m c.left t → NextDeed m c (record { deed = t.deed; cursor = with_left c t.left })
entry_moved m c t some next d ds x = go x.entries refl
  where
    go : (es : List D.Deed) → x.entries ≡ es → DeedIs m t.deed d × Follow m (with_left c t.left) ds
    go [] e = absurd (some (sym (left_counted m c.left x.entries x.left) ∙ ap length e))
    go (a ∷ es) e =
        let p : d ∷ ds ≡ a ∷ (es ++ all_deeds x.settings ++ log_deeds x.requests)
        = x.parts ∙ ap (λ (l : List D.Deed). l ++ all_deeds x.settings ++ log_deeds x.requests) e in
        let (deed, left) = next a es (subst (LeftIs m c.left) e x.left) in (
          subst⁻¹ (DeedIs m t.deed) (head-eq_of_cons-eq p) deed,
          record {
            entries = es;
            settings = x.settings;
            requests = x.requests;
            end = x.end;
            parts = tail-eq_of_cons-eq p;
            left = left;
            counted = x.counted;
            stands = x.stands;
            behind = x.behind;
          },
        )

-- ---- where no entry is left

-- the next setting, up to a place, has begun so
abbrev after : Cursor → Turn → ℕ → Cursor
after c t next = record { left = t.left; at = next; settings = c.settings - 1; coding = c.coding }

module _ (m : List ℕ) (c : Cursor) (d : D.Deed) (ds : List D.Deed) (none : c.left.count ≡ 0) (x : Follow m c (d ∷ ds)) where
  -- the deeds are those of the settings and of the requests
  no_entries : d ∷ ds ≡ all_deeds x.settings ++ log_deeds x.requests
  no_entries = go x.entries refl
    where
      go : (es : List D.Deed) → x.entries ≡ es → d ∷ ds ≡ all_deeds x.settings ++ log_deeds x.requests
      go [] e = x.parts ∙ ap (λ (l : List D.Deed). l ++ all_deeds x.settings ++ log_deeds x.requests) e
      go (a ∷ es) e =
          let n : length x.entries ≡ c.left.count = left_counted m c.left x.entries x.left in
          absurd (omega (arith, ap length e))

  -- the first setting that is left, and those behind it
  record Ahead : Type 0 where
    pub setting : Setting
    pub more : List Setting
    pub next : ℕ
    pub range : InRange text_limits (c.settings - 1) setting
    pub stands : StandsAt c.coding m c.at next setting
    pub counted : length more ≡ c.settings - 1
    pub behind : Standing c.coding m next more x.end
    pub parts : d ∷ ds ≡ deeds setting ++ all_deeds more ++ log_deeds x.requests

  -- where settings are counted there is one
  ahead : (c.settings ≡ 0 → ⊥) → Ahead
  ahead some = go x.settings refl x.stands
    where
      go : (l : List Setting) → x.settings ≡ l → Standing c.coding m c.at l x.end → Ahead
      go [] e y = absurd (some (sym x.counted ∙ ap length e))
      go (s ∷ l) e (next, i, z, more) =
          let n : length l ≡ c.settings - 1 = omega (arith, x.counted, ap length e) in
          record {
            setting = s;
            more = l;
            next = next;
            range = subst (λ (k : ℕ). InRange text_limits k s) n i;
            stands = z;
            counted = n;
            behind = more;
            parts = no_entries ∙ ap (λ (k : List Setting). all_deeds k ++ log_deeds x.requests) e;
          }

  -- its first deed was read, and the others follow
  begun : (y : Ahead) (t : Turn) → TurnIs m t (deeds y.setting) → DeedIs m t.deed d × Follow m (after c t y.next) ds
  begun y t turn =
      let p : d ∷ ds ≡ turn.first ∷ (turn.rest ++ all_deeds y.more ++ log_deeds x.requests)
      = y.parts ∙ ap (λ (k : List D.Deed). k ++ all_deeds y.more ++ log_deeds x.requests) turn.parts in (
        subst⁻¹ (DeedIs m t.deed) (head-eq_of_cons-eq p) turn.read,
        record {
          entries = turn.rest;
          settings = y.more;
          requests = x.requests;
          end = x.end;
          parts = tail-eq_of_cons-eq p;
          left = turn.left;
          counted = y.counted;
          stands = y.behind;
          behind = x.behind;
        },
      )

-- the answer that the reader gives for the next setting
module _ (m : List ℕ) (c : Cursor) (bytes : Bytes m) (a : Result (Read × ℕ) SettingFault) (read : SettingAt c.coding (c.settings - 1) m c.at a) where
  -- it is no refusal
  pub setting_refused : (r : Moved) → Refused a → NextSetting m c r
  setting_refused r refused d ds none some x =
      let y = ahead m c d ds none x some in
      absurd ((refused_exactly c.coding (c.settings - 1) m c.at bytes a read).0 refused y.setting y.next y.range y.stands)

  -- the setting begins
  pub setting_moved : (s : Read) (next : ℕ) (t : Turn) → a ≡ Ok (s, next) → Begins m s t → NextSetting m c (record { deed = t.deed; cursor = after c t next })
  setting_moved s next t e begins d ds none some x =
      let y = ahead m c d ds none x some in
      let (r, e', means) = (read_exactly c.coding (c.settings - 1) m c.at bytes a read y.setting y.next).0 y.range y.stands in
      let one : (r, y.next) ≡ (s, next) = ap (taken (r, y.next)) (sym e' ∙ e) in
      let same : r ≡ s = ap (λ k. k.0) one in
      let at : y.next ≡ next = ap (λ k. k.1) one in
      subst (λ (k : ℕ). DeedIs m t.deed d × Follow m (after c t k) ds) at
      (begun m c d ds none x y t (begins y.setting (c.settings - 1) (subst (λ (k : Read). Meant m k y.setting) same means) y.range))
    where
      -- what was taken
      taken : Read × ℕ → Result (Read × ℕ) SettingFault → Read × ℕ
      taken none (Ok x) = x
      taken none (Err f) = none

-- ---- the next request

-- the coding whose type is 4, and the other
pub eight_bit : (b : ℕ) → b % 16 ≡ 4 → CodingIs b EightBit
eight_bit b e Unicode16 d = absurd (omega arith)
eight_bit b e EightBit d = refl

pub not_eight_bit : (b : ℕ) → (b % 16 ≡ 4 → ⊥) → CodingIs b Unicode16
not_eight_bit b n Unicode16 d = refl
not_eight_bit b n EightBit d = absurd (n d)

module _ (m : List ℕ) (c : Cursor) (d : D.Deed) (ds : List D.Deed) (none : c.left.count ≡ 0) (no_setting : c.settings ≡ 0) (x : Follow m c (d ∷ ds)) where
  -- the first request that is left, and those behind it
  record Behind : Type 0 where
    pub settings : List Setting
    pub more : List (List Setting)
    pub end : ℕ
    pub stands : RecordAt m c.at settings end
    pub behind : Records m end more
    pub first : d ≡ nothing
    pub others : ds ≡ all_deeds settings ++ log_deeds more

  -- where a deed is to come there is one
  behind : Behind
  behind = go x.settings refl x.requests refl x.stands x.behind
    where
      go : (l : List Setting) → x.settings ≡ l → (ls : List (List Setting)) → x.requests ≡ ls → Standing c.coding m c.at l x.end → Records m x.end ls → Behind
      go (s ∷ l) e ls f y z = absurd (omega (arith, x.counted, ap length e))
      go [] e [] f y z = absurd (cons≢nil (no_entries m c d ds none x ∙ ap₂ (λ (k : List Setting) (ks : List (List Setting)). all_deeds k ++ log_deeds ks) e f))
      go [] e (l ∷ ls) f y (end, r, z) =
          let p : d ∷ ds ≡ nothing ∷ (all_deeds l ++ log_deeds ls)
          = no_entries m c d ds none x ∙ ap₂ (λ (k : List Setting) (ks : List (List Setting)). all_deeds k ++ log_deeds ks) e f in
          record {
            settings = l;
            more = ls;
            end = end;
            stands = subst⁻¹ (λ (k : ℕ). RecordAt m k l end) y r;
            behind = z;
            first = head-eq_of_cons-eq p;
            others = tail-eq_of_cons-eq p;
          }

-- a request has ten bytes before its settings
pub record_short : (m : List ℕ) (c : Cursor) (r : Moved) → length m < c.at + 10 → NextRecord m c r
record_short m c r h d ds none no_setting x = let y = behind m c d ds none no_setting x in absurd (omega (arith, y.stands.room))

-- the cursor at the first of so many settings
abbrev at_settings : ℕ → ℕ → Coding → Cursor
at_settings at n c = record { left = none_left; at = at; settings = n; coding = c }

-- the request begins
pub record_moved : (m : List ℕ) (c : Cursor) (coding : Coding) → CodingIs (get_or m (c.at + 7) 0) coding
    → NextRecord m c (record { deed = Nothing; cursor = at_settings (c.at + 10) (get_or m (c.at + 9) 0) coding })
record_moved m c coding is d ds none no_setting x =
    let y = behind m c d ds none no_setting x in
    let same : coding ≡ y.stands.coding = is y.stands.coding y.stands.type in (
      subst⁻¹ (DeedIs m Nothing) y.first tt,
      record {
        entries = [];
        settings = y.settings;
        requests = y.more;
        end = y.end;
        parts = y.others;
        left = (refl, refl);
        counted = sym y.stands.count;
        stands = subst⁻¹ (λ (k : Coding). Standing k m (c.at + 10) y.settings y.end) same y.stands.stands;
        behind = y.behind;
      },
    )
