use Rattle.lead_laws.proofs.laws.lead_law.Goals as goal
use Rattle.lead_laws.proofs.Leads.{name_leads_law}

pub returns : goal.returns
returns c = record { names = name_leads_law }
