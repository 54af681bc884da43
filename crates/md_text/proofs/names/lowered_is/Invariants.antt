-- The loop over both texts: the rests decide, and are of one length.
use Rattle.std.specs.Str.{bytes_eq}
use Rattle.std.proofs.Common.{◌≡◌, length}
use Rattle.std.specs.Slice.Iter.{iter_rest}
use Rattle.std.specs.Iterator.Adapters.{zip_first, zip_second}
use Rattle.md_text.specs.Bytes.{lowered}
use Rattle.md_text.proofs.names.lowered_is.Given as goal

-- the rest decides
abbrev pub invariant-loop-a : goal.invariant-loop-a
invariant-loop-a l = record {
  decides :
      bytes_eq (lowered (iter_rest (zip_first l.a-iterator))) (iter_rest (zip_second l.a-iterator))
      ≡ bytes_eq (lowered l.name) l.text;
  as_long :
      length (iter_rest (zip_first l.a-iterator)) ≡ length (iter_rest (zip_second l.a-iterator));
}
