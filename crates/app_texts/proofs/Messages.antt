-- The text of a request that is put together from its parts.
use Rattle.std.proofs.Common.{◌≡◌, ◌∙◌, ap, sym, ℕ, List, [], ◌++◌, append_assoc, length, codes, decimal, Option}
use Rattle.std.specs.Option.{option_copied}
use Rattle.actor_names.specs.declared.address.Address.{Address}
use Rattle.http_edge.specs.declared.message.HttpRequest.{HttpRequest}
use Rattle.http_edge.specs.Texts.{request_line, field_lines, request_text}
use Rattle.app_texts.specs.declared.calls.MethodCall.{MethodCall}
use Rattle.app_texts.specs.Texts.{message, message_start, sized, method_path, call_lines, first_value, invoke_text}

-- four texts behind another
spread : (a x y z w : List ℕ) → a ++ (x ++ y ++ z ++ w) ≡ a ++ x ++ y ++ z ++ w
spread a x y z w = sym (append_assoc a (x ++ y ++ z) w) ∙ ap (λ (l : List ℕ). l ++ w) (sym (append_assoc a (x ++ y) z) ∙ ap (λ (l : List ℕ). l ++ z) (sym (append_assoc a x y)))

pub request_text_of : (q : HttpRequest) → request_text q ≡ message q.method q.target (field_lines q.fields) q.body
unfolding request_text
request_text_of q = spread (request_line q.method q.target ++ field_lines q.fields) (codes "Content-Length: ") (decimal (length q.body)) (codes "\r\n\r\n") q.body

-- a message that is written part by part
message_parts : (method target lines body : List ℕ) → (message_start method target ++ lines) ++ sized body ≡ message method target lines body
message_parts method target lines body = spread (message_start method target ++ lines) (codes "Content-Length: ") (decimal (length body)) (codes "\r\n\r\n") body

pub invoke_parts : (app : Address) (k : MethodCall) (none start lines whole : List ℕ) (content : Option (List ℕ)) (body : List ℕ)
    → none ≡ [] → start ≡ none ++ message_start (codes "PUT") (method_path k.actor.now k.method.now)
    → lines ≡ start ++ call_lines app content (option_copied k.chain) → whole ≡ lines ++ sized body
    → content ≡ first_value (codes "Content-Type") k.request.now.fields → body ≡ k.request.now.body → whole ≡ invoke_text app k
unfolding invoke_text
invoke_parts app k none start lines whole content body e f g h said is =
    let target = method_path k.actor.now k.method.now in
    let first = message_start (codes "PUT") target in
    let chain = option_copied k.chain in
    let began : start ≡ first = f ∙ ap (λ (l : List ℕ). l ++ first) e in
    h ∙ ap (λ (l : List ℕ). l ++ sized body) (g ∙ ap (λ (l : List ℕ). l ++ call_lines app content chain) began)
    ∙ message_parts (codes "PUT") target (call_lines app content chain) body
    ∙ ap (λ (c : Option (List ℕ)). message (codes "PUT") target (call_lines app c chain) body) said
    ∙ ap (λ (b : List ℕ). message (codes "PUT") target (call_lines app (first_value (codes "Content-Type") k.request.now.fields) chain) b) is
