use Rattle.ota_commands.proofs.Responses.{one-response}
use Rattle.ota_commands.proofs.laws.one_response.Goals as goal

pub returns : goal.returns
returns c = one-response
