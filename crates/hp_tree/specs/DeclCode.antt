-- Declarations are coded as the tuple of their fields.
use Rattle.std.specs.Prelude.{ℕ, List, Option, refl}
use Rattle.std.specs.Coded.{Coded, code_by, coded×, coded_ℕ, coded_list, coded_option}
use Rattle.hp_base.specs.declared.span.Span.{Span}
use Rattle.hp_base.specs.contracts.span.Span as span
use Rattle.hp_base.specs.declared.ty.Ty.{Ty}
use Rattle.hp_base.specs.contracts.ty.Ty as ty
use Rattle.hp_base.specs.declared.ty.Const.{Const}
use Rattle.hp_base.specs.contracts.ty.Const as const
use Rattle.hp_tree.specs.declared.decl.Cons.{Cons}
use Rattle.hp_tree.specs.contracts.decl.Cons as cons
use Rattle.hp_tree.specs.Blocks.{Decl}

abbrev bytes : Coded (List ℕ)
bytes = coded_list coded_ℕ

abbrev Fields : Type 0
Fields = List ℕ × (Ty × (Option Const × (Option (List (Cons × List ℕ)) × Span)))

abbrev fields_code : Coded Fields
fields_code = coded× bytes (coded× ty.the_row.coded (coded× (coded_option const.the_row.coded) (coded× (coded_option (coded_list (coded× cons.the_row.coded bytes))) span.the_row.coded)))

abbrev pub decl_code : Coded Decl
decl_code = code_by Fields fields_code (λ d. (d.name, (d.ty, (d.last, (d.clock, d.span)))))
    (λ f. record { name = f.0; ty = f.1.0; last = f.1.1.0; clock = f.1.1.1.0; span = f.1.1.1.1 }) (λ d. refl)
