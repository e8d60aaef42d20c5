use Rattle.lists.proofs.Kit.{rules}
use Rattle.packing_office.proofs.Packing.{places_case}
use Rattle.packing_office.proofs.places.places_of.Goals as goal

pub returns-in-Group : goal.returns-in-Group
returns-in-Group c = places_case _ _ _ _ c.in-Group.is c.texted.ensures

pub returns-in-Individual : goal.returns-in-Individual
returns-in-Individual c = places_case _ _ _ _ c.in-Individual.is c.texted-in-Individual.ensures

pub returns-in-Line : goal.returns-in-Line
returns-in-Line c = places_case _ _ _ _ c.in-Line.is c.texted-in-Line.ensures

pub returns-in-Key : goal.returns-in-Key
returns-in-Key c = places_case _ _ _ _ c.in-Key.is c.bare.ensures

pub returns-in-Quick : goal.returns-in-Quick
returns-in-Quick c = places_case _ _ _ _ c.in-Quick.is c.texted-in-Quick.ensures

pub returns-in-Home : goal.returns-in-Home
returns-in-Home c = places_case _ _ _ _ c.in-Home.is c.bare-in-Home.ensures

pub returns-in-Channel : goal.returns-in-Channel
returns-in-Channel c = places_case _ _ _ _ c.in-Channel.is c.bare-in-Channel.ensures

pub returns-in-System : goal.returns-in-System
returns-in-System c = places_case _ _ _ _ c.in-System.is c.bare-in-System.ensures

pub returns-in-Status : goal.returns-in-Status
returns-in-Status c = places_case _ _ _ _ c.in-Status.is c.texted-in-Status.ensures

pub returns-in-Hash : goal.returns-in-Hash
returns-in-Hash c = places_case _ _ _ _ c.in-Hash.is c.bare-in-Hash.ensures

pub returns-in-NoHash : goal.returns-in-NoHash
returns-in-NoHash c = places_case _ _ _ _ c.in-NoHash.is c.bare-in-NoHash.ensures

pub returns-in-Unknown : goal.returns-in-Unknown
returns-in-Unknown c = places_case _ _ _ _ c.in-Unknown.is c.bare-in-Unknown.ensures
