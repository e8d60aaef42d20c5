-- A part of a working copy was written as the settings that export it. Assumes nothing.
use Rattle.lists.proofs.Kit.{ℕ, zero, suc, ◌+◌, ◌-◌, ◌*◌, ◌≤◌, ◌<◌, ◌≡◌, refl, ap, ◌∙◌, subst, subst⁻¹, List, ◌++◌, none, some, arith, mid_of, mid_len, length, get_or, take, drop, take-add, drop-drop}
use Rattle.lists.proofs.Seqs.{get_d_map}
use Rattle.slots.specs.Slots.{u16, Listed}
use Rattle.writing.specs.Canonical.{canonical_all}
use Rattle.writing.specs.Ranges.{InChannel}
use Rattle.writing.specs.Settings.{Setting, unicode16}
use Rattle.tables.specs.declared.limits.Limits.{Limits}
use Rattle.tables.specs.Allowed.{LineOk}
use Rattle.tables.specs.Layout.{count_size, line_bytes, groups_at, individuals_at, line_slots_at, line_slots_size, line_width, lines_at, channels_at, member_size, member_width, quick_at, quick_size, status_at, status_size, placed_layout}
use Rattle.tables.specs.Limits.{contact_places}
use Rattle.tables.specs.Members.{member_ok, member_bytes, contacts_in, contacts_at}
use Rattle.tables.specs.Store.{Works}
use Rattle.tables.specs.Tables.{Tables}
use Rattle.tables.proofs.Frames.{key_get, home_get, system_get, quick_placed, status_placed, groups_placed, individuals_placed, line_slots_placed, contacts_listed, channels_listed, lines_listed}
use Rattle.tables.specs.declared.members.Members.{Members}
use Rattle.tables.specs.declared.members.Members.TheVariants.{OfGroups, OfIndividuals}
use Rattle.export_write.specs.declared.writers.Settings.{Settings}
use Rattle.export_write.specs.ChannelWriters.{ChannelsIn}
use Rattle.export_write.specs.ContactWriters.{ContactsIn}
use Rattle.export_write.specs.EntryWriters.{QuicksIn, StatusesIn}
use Rattle.export_write.specs.FixedWriters.{FixedIn}
use Rattle.export_write.specs.LineWriters.{LinesIn, LineSlotsIn}
use Rattle.export_write.specs.MemberWriters.{MembersIn}
use Rattle.export_write.specs.Writers.{Wrote, WritesTable}
use Rattle.export.specs.declared.parts.Part.{Part}
use Rattle.export.specs.declared.parts.Part.TheVariants.{Lines, Fixed, QuickTexts, Channels, StatusTexts, Groups, Individuals, GroupContacts, IndividualContacts, LineSlots}
use Rattle.export.specs.Exportable.{Exportable}
use Rattle.export.specs.Exported.{ten, part_number, exported}
use Rattle.export.specs.PartWriters.{part_at, part_from, part_to, WritesPart, PartWritten}

-- ---- parts by their number

-- the part at each place has the number after it
pub ten_at : (k : ℕ) → k < length ten → part_number (get_or ten k Lines) ≡ k + 1
ten_at zero h = refl
ten_at (suc zero) h = refl
ten_at (suc (suc zero)) h = refl
ten_at (suc (suc (suc zero))) h = refl
ten_at (suc (suc (suc (suc zero)))) h = refl
ten_at (suc (suc (suc (suc (suc zero))))) h = refl
ten_at (suc (suc (suc (suc (suc (suc zero)))))) h = refl
ten_at (suc (suc (suc (suc (suc (suc (suc zero))))))) h = refl
ten_at (suc (suc (suc (suc (suc (suc (suc (suc zero)))))))) h = refl
ten_at (suc (suc (suc (suc (suc (suc (suc (suc (suc zero))))))))) h = refl
ten_at (suc (suc (suc (suc (suc (suc (suc (suc (suc (suc k)))))))))) h = let l : length ten ≡ 10 = refl in absurd (omega arith)

-- a part is found by its number
pub at_number : (p : Part) → part_at (part_number p) ≡ some p
at_number Lines = refl
at_number Fixed = refl
at_number QuickTexts = refl
at_number Channels = refl
at_number StatusTexts = refl
at_number Groups = refl
at_number Individuals = refl
at_number GroupContacts = refl
at_number IndividualContacts = refl
at_number LineSlots = refl

-- what is found at the numbers of the parts
pub part_within : (n k : ℕ) → n ≡ suc k → k < length ten → part_at n ≡ some (get_or ten k Lines)
part_within n k e h = ap part_at e ∙ get_d_map some ten k Lines none h

-- ---- what stands in a part of a working copy

module _ (lim : Limits) (t : Tables) (s : List ℕ) (h : Works lim t s) where
  -- a part of it is that part of the layout
  at_part : (P : List ℕ → Type 0) (a n k : ℕ) → k ≡ n → P (mid_of a n (placed_layout lim t)) → P (mid_of a k s)
  at_part P a n k e p = subst⁻¹ (λ (i : ℕ). P (mid_of a i s)) e (subst⁻¹ (λ (x : List ℕ). P (mid_of a n x)) h.1 p)

  pub lines_in : (k : ℕ) → k ≡ lim.lines * line_width → LinesIn (mid_of (lines_at lim + count_size) k s) t.lines
  lines_in k e = (lim.lines, at_part (λ x. Listed LineOk line_width line_bytes lim.lines t.lines x) (lines_at lim + count_size) (lim.lines * line_width) k e (lines_listed lim t h.0))

  pub channels_in : (k : ℕ) → k ≡ lim.channels * 2 → ChannelsIn (mid_of (channels_at + count_size) k s) t.channels
  channels_in k e = (lim.channels, at_part (λ x. Listed InChannel 2 u16 lim.channels t.channels x) (channels_at + count_size) (lim.channels * 2) k e (channels_listed lim t h.0))

  pub quick_in : QuicksIn (mid_of quick_at quick_size s) t.quick
  quick_in = at_part (λ x. QuicksIn x t.quick) 22 quick_size quick_size refl (quick_placed lim t h.0)

  pub status_in : StatusesIn (mid_of status_at status_size s) t.status
  status_in = at_part (λ x. StatusesIn x t.status) status_at status_size status_size refl (status_placed lim t h.0)

  pub groups_in : MembersIn OfGroups (mid_of groups_at member_size s) t.groups
  groups_in = at_part (λ x. MembersIn OfGroups x t.groups) groups_at member_size member_size refl (groups_placed lim t h.0)

  pub individuals_in : MembersIn OfIndividuals (mid_of individuals_at member_size s) t.individuals
  individuals_in = at_part (λ x. MembersIn OfIndividuals x t.individuals) individuals_at member_size member_size refl (individuals_placed lim t h.0)

  pub line_slots_in : LineSlotsIn (mid_of line_slots_at line_slots_size s) t.line_slots
  line_slots_in = at_part (λ x. LineSlotsIn x t.line_slots) line_slots_at line_slots_size line_slots_size refl (line_slots_placed lim t h.0)

  pub contacts_held : (w : Members) → ContactsIn w (mid_of (contacts_at w + count_size) (contact_places * member_width) s) (contacts_in w t)
  contacts_held w =
      (contact_places, at_part (λ x. Listed (member_ok w) member_width (member_bytes w) contact_places (contacts_in w t) x) (contacts_at w + count_size) (contact_places * member_width) (contact_places * member_width) refl (contacts_listed lim t h.0 w))

  pub fixed_in : FixedIn (mid_of 11 11 s) (t.key, (t.home, t.system))
  fixed_in =
      let l : List ℕ = placed_layout lim t in
      let a : mid_of 11 11 l ≡ mid_of 11 4 l ++ (mid_of 15 4 l ++ mid_of 19 3 l)
      = take-add 4 7 (drop 11 l) ∙ ap (λ (x : List ℕ). mid_of 11 4 l ++ take 7 x) (drop-drop 4 11 l)
      ∙ ap (λ (x : List ℕ). mid_of 11 4 l ++ x) (take-add 4 3 (drop 15 l) ∙ ap (λ (x : List ℕ). mid_of 15 4 l ++ take 3 x) (drop-drop 4 15 l)) in (
        (h.0.key, (h.0.home, h.0.system)),
        ap (mid_of 11 11) h.1 ∙ a
            ∙ (λ i. key_get lim t h.0 i ++ (home_get lim t h.0 i ++ system_get lim t h.0 i)),
      )

-- ---- part by part

-- where a part starts and ends
abbrev starts : Limits → Part → ℕ
starts lim = part_from (lines_at lim) (lines_at lim + (count_size + lim.lines * line_width))

abbrev ends : Limits → Part → ℕ
ends lim = part_to (lines_at lim) (lines_at lim + (count_size + lim.lines * line_width))

module _ (lim : Limits) (work s u : List ℕ) (r : Settings) (x : Exportable lim) (big : lim.message ≤ length s) where
  -- what was written of what a part holds are the part's settings, where they fit
  part_of : (p : Part) {A : Type 0} {Long : Type 0} {Held : A → Type 0} {g : A → List Setting} {room : ℕ} (f : Tables → A) → ((t : Tables) → Works lim t work → Held (f t))
      → ((t : Tables) → g (f t) ≡ exported p t) → Long → room ≤ lim.message - 8 → room ≤ 60000 → WritesTable Long Held g room s u r → PartWritten lim p work s u r
  part_of p f is e long l k table =
      let w = table (long, omega (arith, x.status)) in
      record {
        small = omega (arith, w.writes.most);
        writes = record {
          writes = record {
            from = w.writes.from;
            most = omega (arith, w.writes.most);
            wrote = λ t h. subst (λ (y : List Setting). Wrote (canonical_all unicode16 y) 8 s u r.end) (e t) (w.writes.wrote (f t) (is t h));
          };
          counted = λ t h. w.counted (f t) (is t h) ∙ ap length (e t);
        };
      }

  -- the settings of the bytes of each part were written
  part_held : (p : Part) → length (mid_of (starts lim p) (ends lim p - starts lim p) work) ≡ ends lim p - starts lim p → WritesPart p (mid_of (starts lim p) (ends lim p - starts lim p) work) s u r → PartWritten lim p work s u r
  part_held Lines l =
      part_of Lines (λ t. t.lines) (λ t h. lines_in lim t work h (ends lim Lines - starts lim Lines) (omega arith)) (λ t. refl) (omega (arith, x.counted)) (omega (arith, x.lines)) (omega (arith, x.counted))
  part_held Fixed l = part_of Fixed (λ t. (t.key, (t.home, t.system))) (λ t h. fixed_in lim t work h) (λ t. refl) l (omega (arith, x.status)) (omega arith)
  part_held QuickTexts l = part_of QuickTexts (λ t. t.quick) (λ t h. quick_in lim t work h) (λ t. refl) l (omega (arith, x.status)) (omega arith)
  part_held Channels l =
      part_of Channels (λ t. t.channels) (λ t h. channels_in lim t work h (ends lim Channels - starts lim Channels) (omega arith)) (λ t. refl) (omega (arith, x.channels)) (omega (arith, x.status, x.channels)) (omega (arith, x.channels))
  part_held StatusTexts l = part_of StatusTexts (λ t. t.status) (λ t h. status_in lim t work h) (λ t. refl) l (omega (arith, x.status)) (omega arith)
  part_held Groups l = part_of Groups (λ t. t.groups) (λ t h. groups_in lim t work h) (λ t. refl) l (omega (arith, x.status)) (omega arith)
  part_held Individuals l = part_of Individuals (λ t. t.individuals) (λ t h. individuals_in lim t work h) (λ t. refl) l (omega (arith, x.status)) (omega arith)
  part_held GroupContacts l =
      part_of GroupContacts (λ t. t.group_contacts) (λ t h. contacts_held lim t work h OfGroups) (λ t. refl) (omega arith) (omega (arith, x.status)) (omega arith)
  part_held IndividualContacts l =
      part_of IndividualContacts (λ t. t.individual_contacts) (λ t h. contacts_held lim t work h OfIndividuals) (λ t. refl) (omega arith) (omega (arith, x.status)) (omega arith)
  part_held LineSlots l = part_of LineSlots (λ t. t.line_slots) (λ t h. line_slots_in lim t work h) (λ t. refl) l (omega (arith, x.status)) (omega arith)

  -- the settings of the bytes from the part's start to its end were written
  pub part_written : (p : Part) (a b : ℕ) → a ≡ starts lim p → b ≡ ends lim p → b ≤ length work → WritesPart p (mid_of a (b - a) work) s u r → PartWritten lim p work s u r
  part_written p a b e d inside w =
      part_held p (mid_len (starts lim p) (ends lim p) work (omega arith))
      (subst (λ (i : ℕ). WritesPart p (mid_of (starts lim p) (i - starts lim p) work) s u r) d (subst (λ (i : ℕ). WritesPart p (mid_of i (b - i) work) s u r) e w))
