-- A `&` to a `Hold` shares its parts. Assumes `Logic`.
use denote.RattleType.{RattleType}
use denote.Param.Laws.{Laws}
use denote.Param.Shared.{copy_shared}
use denote.Builtin.{RawPtr}
use denote.Struct.Laws.{field_copy}
use denote.Struct.Lending.{of_Lends}
use Rattle.core.specs.contracts.marker.PhantomData as P
use Rattle.lend.specs.contracts.hold.Hold as C
use Rattle.lend.proofs.hold.Hold.TheLaw.Statement.{statement}
use Rattle.lend.proofs.Shown.{shown_laws, lends_shown}

pub shares : (T : RattleType) (L : Laws T) → statement T L
shares T L = of_Lends (C.struct T) (C.the_codes T.Denot T.coded (P.the_row RawPtr).coded) (C.the_heap T) (C.the_lent T)
    (λ d p. shown_laws T L d.at d.value d.age d.parts)
    (copy_shared (P.the_field RawPtr) (field_copy (P.the_type RawPtr) tt), tt) (λ M 𝓤 𝓛 d p. lends_shown T L d.at d.value d.age 𝓛 (C.the_row T).lives d.parts)
