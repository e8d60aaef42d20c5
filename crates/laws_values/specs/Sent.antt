-- What was sent together: in ONE entry of ONE setting, the last that was sent for that slot or key.
use Rattle.std.specs.Prelude.{ℕ, ◌≡◌, ◌≢◌, List, ◌∷◌, ◌++◌}
use Rattle.std.proofs.Math.Option.{Option}
use Rattle.lists.specs.Every.{All}
use Rattle.writing.specs.declared.LineFlags.{LineFlags}
use Rattle.writing.specs.declared.Operation.{Operation}
use Rattle.writing.specs.declared.Operation.TheVariants.{Delete}
use Rattle.writing.specs.Settings.{Number, Slot, Setting, group_contacts, individual_contacts, lines, group, individual, line_slot}
use Rattle.tables.specs.Apply.{line_of, contact_of}
use Rattle.tables.specs.Tables.{Line, line_key, Member, GroupMember, IndividualMember}
use Rattle.laws_screen.specs.ByKey.{to_group_contact, to_individual_contact, to_line}
use Rattle.laws_screen.specs.Reached.{to_group, to_individual, to_line_slot, LastSent}

-- ---- one entry of one setting

-- a slot's setting is one entry: it is no delete, it is for slot i, and a is made of its flags, its address or number, and its text
pub record OneSlot {F D A : Type 0} (of : Operation → F → Slot D → Setting) (make : F → Slot D → A) (i : ℕ) (s : Setting) (a : A) : Type 0 where
  pub operation : Operation
  pub flags : F
  pub entry : Slot D
  pub is : s ≡ of operation flags entry
  pub no_delete : operation ≢ Delete
  pub slot : entry.index ≡ i
  pub made : a ≡ make flags entry

-- of a list's entries, up to 255, a is made of one: the last with its key
pub record LastEntry {E A K : Type 0} (make : E → A) (key : A → K) (es : List E) (a : A) : Type 0 where
  pub earlier : List E
  pub entry : E
  pub later : List E
  pub split : es ≡ earlier ++ (entry ∷ later)
  pub made : a ≡ make entry
  pub others : All (λ e. key (make e) ≢ key a) later

-- and the setting of that list is no delete
pub record OneOfList {F E A K : Type 0} (of : Operation → F → List E → Setting) (make : F → E → A) (key : A → K) (s : Setting) (a : A) : Type 0 where
  pub operation : Operation
  pub flags : F
  pub entries : List E
  pub is : s ≡ of operation flags entries
  pub no_delete : operation ≢ Delete
  pub one : LastEntry (make flags) key entries a

-- ---- the last for a place

-- the last of the settings that is for a place put a there, and a is made of one entry of that setting
pub record SentTogether {A : Type 0} (to : Setting → Option (Option A)) (One : Setting → A → Type 0) (l : List Setting) (a : A) : Type 0 where
  pub last : LastSent to l a
  pub entry : One last.setting a

-- how a slot's entry becomes what the slot holds; `contact_of` and `line_of` say it of a list's
abbrev pub member_of : {Flags Address : Type 0} → Flags → Slot Address → Member Flags Address
member_of f s = record { flags = f; address = s.address; text = s.text }

abbrev pub slot_line_of : LineFlags → Slot Number → Line
slot_line_of f s = record { flags = f; number = s.address; text = s.text }

-- in slot i
abbrev pub GroupSent : List Setting → ℕ → GroupMember → Type 0
GroupSent l i = SentTogether (to_group i) (OneSlot group member_of i) l

abbrev pub IndividualSent : List Setting → ℕ → IndividualMember → Type 0
IndividualSent l i = SentTogether (to_individual i) (OneSlot individual member_of i) l

abbrev pub LineSlotSent : List Setting → ℕ → Line → Type 0
LineSlotSent l i = SentTogether (to_line_slot i) (OneSlot line_slot slot_line_of i) l

-- in a list, under the key that it has itself: its address; of a line its IDtype and digits
abbrev pub GroupContactSent : List Setting → GroupMember → Type 0
GroupContactSent l g = SentTogether (to_group_contact g.address) (OneOfList group_contacts contact_of (λ x. x.address)) l g

abbrev pub IndividualContactSent : List Setting → IndividualMember → Type 0
IndividualContactSent l g = SentTogether (to_individual_contact g.address) (OneOfList individual_contacts contact_of (λ x. x.address)) l g

abbrev pub LineSent : List Setting → Line → Type 0
LineSent l m = SentTogether (to_line (line_key m)) (OneOfList lines line_of line_key) l m
