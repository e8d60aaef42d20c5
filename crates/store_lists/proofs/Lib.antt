mod AddressLaws
mod ChannelLaws
mod ContactLaws
mod KeyedLaws
mod LineLaws
mod MarkLaws
