mod FixedLaws
mod IndexedLaws
mod LineSlotLaws
mod MemberLaws
mod OverwriteLaws
mod TextTables
