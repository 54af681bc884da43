-- A safe text in the Standard's words.
use Rattle.std.proofs.Common.{ℕ, List}
use Rattle.md_safe.specs.Tokenized.{IsSafelyTokenized}
use Rattle.md_safe.proofs.Tokenized.{safely-tokenized}
use Rattle.md_html.specs.Safe.{IsSafe}

pub safe-tokens : (text : List ℕ) → IsSafe text → IsSafelyTokenized text
safe-tokens text safe = safely-tokenized text safe.safe_links safe.safe_images
