-- Group and individual slots: what the function that sets one has to show. Assumes nothing.
use Rattle.lists.proofs.Kit.{ℕ, ◌+◌, ◌*◌, ◌≤◌, ◌<◌, ◌≡◌, refl, ap, ◌∙◌, false, List, ◌∷◌, ◌++◌, arith, length}
use Rattle.slots.specs.Slots.{u24}
use Rattle.writing.specs.declared.Operation.{Operation}
use Rattle.writing.specs.Ranges.{text_limits}
use Rattle.writing.specs.Settings.{Text}
use Rattle.read_fields.specs.declared.texts.TextPlace.{TextPlace}
use Rattle.tables.specs.Allowed.{AddressOk, TextOk}
use Rattle.tables.specs.declared.members.Members.{Members}
use Rattle.tables.specs.declared.members.Members.TheVariants.{OfGroups, OfIndividuals}
use Rattle.tables.specs.MemberKinds.{MemberIn, number_of}
use Rattle.tables.specs.Members.{member_ok, flags_of, member_bytes}
use Rattle.tables.specs.Layout.{text_bytes, member_width}
use Rattle.tables.specs.Limits.{slot_places}
use Rattle.tables.proofs.EntryCodes.{member_code}
use Rattle.store_places.specs.Changes.{PlaceSet, MemberSet, member}
use Rattle.store_places.proofs.OverwriteLaws.{Made, place_overwritten, after_turn}

-- what is allowed has an address of 24 bits and a text, and its bytes are the flags, the address and the text
parts_of : (w : Members) (x : MemberIn w) → member_ok w x
    → (number_of w x.address < 16777216) × TextOk text_limits.short x.text
    × (flags_of w x.flags ∷ u24 (number_of w x.address) ++ text_bytes text_limits.short x.text ≡ member_bytes w x)
parts_of OfGroups x ok = (ok.address.1, ok.text, refl)
parts_of OfIndividuals x ok = (ok.address.1, ok.text, refl)

-- a place was set, with a head of four bytes: the flags and the address
pub member_set : (m : List ℕ) (o : Operation) (i flags address : ℕ) (p : TextPlace) (s t head : List ℕ) → length head ≡ 4 → (address < 16777216 → head ≡ flags ∷ u24 address)
    → (i * member_width + member_width ≤ length s → PlaceSet false m o p head member_width i s t) → MemberSet m o i flags address p s t
member_set m o i flags address p s t head four hd changed w f a fl ad os us next is low ok h =
    place_overwritten (member_ok w) member_width (member_bytes w) (member_code w).long slot_places os s h i low o (member w f a us) head text_limits.short us next is (omega arith)
    (after_turn (member_ok w) (Made (member_ok w) (member_bytes w) head text_limits.short us) (member w f a us) (λ g.
    let (few, text, bytes) = parts_of w (member w f a us) g in
    let e : head ≡ flags_of w f ∷ u24 (number_of w a) = hd (omega (arith, few, ad)) ∙ (λ j. fl us g j ∷ u24 (ad j)) in
    (g, text.short, ap (λ (l : List ℕ). l ++ text_bytes text_limits.short us) e ∙ bytes)) o ok) t changed
