use Rattle.layers.proofs.SplitLaws.{lawful_below, lawful_now}
use Rattle.layers.proofs.junction_laws.junction_flow_is_lawful_below.Goals as goal

pub returns : goal.returns
returns c = record { any_flow = lawful_below; present_flow = lawful_now }
