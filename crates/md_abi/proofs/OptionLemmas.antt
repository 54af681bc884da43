-- A field that encodes no option is reported as such.
use Rattle.std.proofs.Common.{arith}
use Rattle.std.proofs.Common.{◌≡◌, ℕ, Option, Some, Result, IfErr, is_some}
use Rattle.std.specs.Prelude.{IsErrAnd, slice_get}
use Rattle.md_abi.specs.Options.{readable_fields}
use Rattle.md_abi.specs.Failures.{IsFaultOf, IsOptionFault}
use Rattle.md_abi.specs.declared.option.COptions.{COptions}
use Rattle.md_abi.specs.declared.failure.Failure.{Failure}

module _ {A : Type 0} (options : COptions) (field : ℕ) (value : Option A)
    (at : slice_get (readable_fields options) field ≡ Some (is_some value)) where
  -- the result of `?`
  pub fault_reported : {T : Type 0} (r : Result T Failure) (why : Failure) →
      IsErrAnd r (λ made. made ≡ why) →
      IsFaultOf field value why → IfErr r (IsOptionFault options)
  fault_reported r why same fault = grind arith
