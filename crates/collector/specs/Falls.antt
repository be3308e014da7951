-- The parts before the last one have fewer exclusions than the whole.
use Rattle.std.specs.Prelude.{◌≤◌, max, length}
use Rattle.std.proofs.Common.{arith, length-append}
use Rattle.collector.specs.declared.chain.Link.{Link}
use Rattle.collector.specs.declared.chain.Link.TheVariants.{First, Behind}
use Rattle.collector.specs.declared.chain.Chain.TheDeep.{deep-Link}
use Rattle.collector.specs.Chains.{IsLink, linked}

pub falls : (link : Link) → IsLink link → max (deep-Link link) 0 ≤ length (linked link)
falls (First own) h = omega arith
falls (Behind above own) h = omega (arith, h, length-append above.value own)
