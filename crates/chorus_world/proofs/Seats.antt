pub mod SenderLaws
pub mod CallLemmas
pub mod RequestLaws
pub mod CallBounds
pub mod CallFacts
pub mod OnlyAnswer
pub mod SomeAnswer
pub mod Answered
