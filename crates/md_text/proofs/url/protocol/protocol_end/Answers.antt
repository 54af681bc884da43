-- The first byte that can't be in a protocol ends one, or shows that there is none.
use Rattle.std.proofs.Common.{arith}
use Rattle.md_text.proofs.ProtocolLemmas.{protocol_of-colon_at, protocol_of-none_at}
use Rattle.md_text.proofs.url.protocol.protocol_end.Goals as goal

pub returns-then-url-end-eq58 : goal.returns-then-url-end-eq58
returns-then-url-end-eq58 c =
    let on = protocol_of-colon_at c.args.url.now in
    grind (arith, on)

pub returns-else-end-url : goal.returns-else-end-url
returns-else-end-url c =
    let on = protocol_of-none_at c.args.url.now in
    grind (arith, on)
