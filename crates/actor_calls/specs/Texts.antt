-- The texts of a request's exchanges, of plain values: those of `invoke_text` and of `peer_request`. Own.
use Rattle.std.specs.Prelude.{ℕ, List, ◌++◌, codes, decimal, Option}
use Rattle.actor_names.specs.declared.address.Address.{Address}
use Rattle.actor_names.specs.declared.actor_key.ActorKey.{ActorKey}
use Rattle.call_names.specs.declared.name.CallName.{CallName}
use Rattle.call_names.specs.Texts as names
use Rattle.http_edge.specs.declared.message.HttpRequest.{HttpRequest}
use Rattle.app_texts.specs.Texts.{message, method_path, call_lines, host_line, line, line_if, close_line, first_value}

-- the text that calls the method at the application, under the chain that the turn was told
unfoldable pub call_text : Address → ActorKey → List ℕ → Option (List ℕ) → HttpRequest → List ℕ
call_text app actor method chain request =
    message (codes "PUT") (method_path actor method) (call_lines app (first_value (codes "Content-Type") request.fields) chain) request.body

-- the text that hands the request on under this name to the sidecar at the address, which has to know this version
unfoldable pub forward_text : Address → HttpRequest → ℕ → CallName → List ℕ
forward_text at request least call =
    message request.method request.target
    (host_line at ++ line (codes "Actors-Least") (decimal least) ++ line (codes "Actors-Call") (names.call_text call) ++ line_if (codes "Actors-Chain") (first_value (codes "Dapr-Reentrancy-Id") request.fields) ++ line_if (codes "Content-Type") (first_value (codes "Content-Type") request.fields) ++ close_line)
    request.body
