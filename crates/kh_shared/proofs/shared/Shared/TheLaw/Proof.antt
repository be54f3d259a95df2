-- A `&` to a shared pointer holds a share of its token, and what every owner knows.
use denote.RattleType.{RattleType}
use denote.Param.Laws.{Laws}
use denote.Param.Shared.{copy_shared}
use denote.Struct.Field.{RawPtr-field}
use denote.Struct.Laws.{RawPtr-copy}
use denote.Struct.Lending.{of_Lends}
use Rattle.std.specs.contracts.alloc.Global as heap
use Rattle.std.proofs.alloc.Global.TheLaws as heap_laws
use Rattle.kh_shared.specs.contracts.shared.Shared as C
use Rattle.kh_shared.proofs.Words.{blocks_of}
use Rattle.kh_shared.proofs.Owners.{lends_shr_laws, Lends-shared}
use Rattle.kh_shared.proofs.shared.Shared.TheLaw.Statement.{statement}

pub shares : (T : RattleType) (L : Laws T) → statement T L
shares T L = of_Lends (C.struct T) (C.the_codes T.Denot T.coded heap.the_row.coded) (C.the_heap T) (C.the_lent T) (λ d p. lends_shr_laws T (blocks_of d) d.value L.shr_laws)
    (copy_shared RawPtr-field RawPtr-copy, (copy_shared RawPtr-field RawPtr-copy, (heap_laws.the_field_shared, tt)))
    (λ M 𝓤 𝓛 d p. Lends-shared T (blocks_of d) d.value 𝓛 L.shr_laws (C.the_row T).lives)
